-- What readers say that read what stands around the blocks of modules, procedures and processes.
use Rattle.std.specs.Prelude.{ℕ, List, ◌∷◌}
use Rattle.mc_tree.specs.declared.place.Place.{Place}
use Rattle.mc_tree.specs.declared.token.Token.{Token}
use Rattle.mc_tree.specs.declared.token.Symbol.{Symbol}
use Rattle.mc_tree.specs.declared.token.Reserved.TheVariants.{DeviceWord, EndWord, ModuleWord}
use Rattle.mc_tree.specs.declared.token.Symbol.TheVariants.{LeftBracket, RightBracket, Semicolon}
use Rattle.mc_tree.specs.Classes.{NameClass, ReservedClass, SymbolClass}
use Rattle.mc_tree.specs.Grammar.{ExprPhrase, Take, Sub, Stack}
use Rattle.mc_tree.specs.Phrases.{Trees}
use Rattle.mc_parse.specs.declared.frame.DeviceHead.{DeviceHead}
use Rattle.mc_parse.specs.declared.frame.Ending.{Ending}
use Rattle.mc_parse.specs.Reads.{IsReadAs}

-- `end id` and this mark
abbrev pub ending_ahead : Symbol → Stack → Stack
ending_ahead mark stack = Take (ReservedClass EndWord) ∷ Take NameClass ∷ Take (SymbolClass mark) ∷ stack

abbrev pub IsEndingRead : Place → Symbol → List Token → Ending → List Token → Type 0
IsEndingRead end mark tokens e others =
    IsReadAs end (ending_ahead mark) tokens (λ (stack : Stack) (ks : Trees stack). ((tt, e.end), ((e.name.text, e.name.place), ((tt, e.mark), ks)))) others

-- `device module id Bracket ;`
abbrev pub device_head_ahead : ℕ → Stack → Stack
device_head_ahead d stack =
    Take (ReservedClass DeviceWord) ∷ Take (ReservedClass ModuleWord) ∷ Take NameClass ∷ Take (SymbolClass LeftBracket) ∷ Sub d ExprPhrase ∷ Take (SymbolClass RightBracket) ∷ Take (SymbolClass Semicolon) ∷ stack

abbrev pub IsDeviceHeadRead : Place → ℕ → List Token → DeviceHead → List Token → Type 0
IsDeviceHeadRead end d tokens h others =
    IsReadAs end (device_head_ahead d) tokens (λ (stack : Stack) (ks : Trees stack). ((tt, h.device_word), ((tt, h.module_word), ((h.name.text, h.name.place), ((tt, h.bracket.opening), (h.bracket.value, ((tt, h.bracket.closing), ((tt, h.semicolon), ks)))))))) others
