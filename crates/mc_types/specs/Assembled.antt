-- The resolved program of what two passes found: the declarations, and the texts that run.
use Rattle.std.specs.Prelude.{ℕ, ◌≡◌, ◌+◌, ◌*◌, List, [], ◌∷◌, ◌++◌, length, map}
use Rattle.std.specs.BTreeMap.{BTreeMap}
use Rattle.mc_tree.specs.declared.place.Place.{Place}
use Rattle.mc_prog.specs.Pieces.{Piece}
use Rattle.mc_prog.specs.Declarations.{Declared}
use Rattle.mc_prog.specs.Resolved.{Resolved, Text, Texts, bodies_node, bodies_of, completed, completed_module, completed_process, data_words, main_code, text_of, text_words}
use Rattle.mc_types.specs.NameTables.{Key, found}

abbrev pub assembled_of : Declared → Texts → ℕ → List Piece → Resolved
assembled_of d t tokens pieces = record {
  modules = map (completed_module t.texts) d.modules;
  types = d.types;
  cells = d.cells;
  procedures = map (completed t.texts) d.procedures;
  processes = map (completed_process t.texts) d.processes;
  nodes = t.nodes ++ (bodies_node (bodies_of t.texts) ∷ []);
  main = main_code (length t.nodes);
  size = 12 * tokens + data_words d.types d.cells + text_words pieces;
}

-- the table of texts stands for these: it has the first text of each place
abbrev pub AreTexts : List Text → BTreeMap Key Text → Type 0
AreTexts texts table = (place : Place) → found table place ≡ text_of texts place
