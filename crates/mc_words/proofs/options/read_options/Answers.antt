use Rattle.std.proofs.Common.{◌≡◌, ◌≢◌, ◌∙◌, inl, inr, List, [], ◌∷◌, map, Option, Some, None, String, Global, string_bytes, option_map, refl, ap, sym, subst}
use Rattle.std.proofs.lemmas.Str.{IsUtf8-had}
use Rattle.clap.specs.declared.error.Error.{Error}
use Rattle.clap.specs.declared.error.kind.ErrorKind.TheVariants.{OutOfMemory}
use Rattle.clap.specs.Kinds.{IsAmong, Kinds, HasKind}
use Rattle.clap.specs.Faults.{fault_of, is_simple_and_free}
use Rattle.clap.specs.Simple.{App, matches_of, is_simple}
use Rattle.clap.specs.Walk.{Text}
use Rattle.clap.specs.Words.{kind_of}
use Rattle.mc_words.specs.Arguments.{app}
use Rattle.mc_words.specs.Options.{Reading, Parts, parts_of, nothing_read, reads_all}
use Rattle.mc_words.specs.Said.{found_in}
use Rattle.mc_words.proofs.Walks.{Parses, parses, AllText}
use Rattle.mc_words.proofs.options.read_options.Goals as goal

-- what a parse that passes has found is what is read
found_parts : (words : List Text) (o : Option Reading) → Parses words o → fault_of app words ≡ [] → option_map parts_of o ≡ Some (found_in (matches_of app words))
found_parts words None fails none = absurd (fails none)
found_parts words (Some r) p none =
    let P : Parts → Option Parts = λ x. Some x in
    sym (ap P (same (found_in (matches_of app words)) (parts_of r) p.1 p.2 p.3))
  where
    same : (a b : Parts) → a.journals ≡ b.journals → a.settings ≡ b.settings → a.positionals ≡ b.positionals → a ≡ b
    same a b e f g = rw (e, f, g) refl

-- and one that fails stands for words that can't be read
nothing : (words : List Text) (o : Option Reading) → Parses words o → fault_of app words ≢ [] → o ≡ None
nothing words None fails some = refl
nothing words (Some r) p some = absurd (some p.0)

some_kind : (kinds : Kinds) (e : Error) → kind_of e ≢ OutOfMemory → HasKind kinds e → kinds ≢ []
some_kind kinds e other (inl m) none = other m
some_kind kinds e other (inr m) none = subst (λ (k : Kinds). IsAmong (kind_of e) k) none m

-- strings spell characters
all_text : (words : List (String Global)) → AllText (map string_bytes words)
all_text [] = tt
all_text (word ∷ words) = (IsUtf8-had (string_bytes word) word.ok, all_text words)

pub returns-in_ok-gathered-in-Ok-clause-ok : goal.returns-in_ok-gathered-in-Ok-clause-ok
returns-in_ok-gathered-in-Ok-clause-ok c =
    let words : List Text = map string_bytes c.args.words.now in
    let is = c.in_ok-command.ensures in
    let none = sym (ap (λ (a : App). fault_of a words) is) ∙ c.in-Ok.ensures.kinds (ap is_simple_and_free is) in
    let rows = (c.in-Ok.ensures.matches (ap is_simple is)).0 ∙ ap (λ (a : App). matches_of a words) is in
    let parts = c.in_ok-gathered-in-Ok.ensures ∙ ap found_in rows in
    found_parts words (reads_all nothing_read words) (parses words (all_text c.args.words.now)) none ∙ ap (λ (p : Parts). let o : Option Parts = Some p in o) (sym parts)

pub returns-in-Err-clause-none : goal.returns-in-Err-clause-none
returns-in-Err-clause-none c = λ e.
    let words : List Text = map string_bytes c.args.words.now in
    let is = c.in_ok-command.ensures in
    let fails = c.in-Err.ensures.kinds (ap is_simple_and_free is) in
    let other : kind_of c.in-Err.error ≢ OutOfMemory = c.refusal.ensures (cc) in
    let some : fault_of app words ≢ [] = subst (λ (a : App). fault_of a words ≢ []) is (some_kind _ c.in-Err.error other fails) in
    nothing words (reads_all nothing_read words) (parses words (all_text c.args.words.now)) some
