-- From the stages of a source to the whole source.
use Rattle.std.proofs.Common.{inl, inr, ◌≡◌, ◌≤◌, ℕ, List, length, Option, Some, None, refl, sym, subst}
use Rattle.std.specs.Prelude.{Result, Ok, Err, IfOk, IfErr, IfSome, MatchResult, ◌⊎◌}
use Rattle.mc_tree.specs.declared.fault.Fault.{Fault}
use Rattle.mc_tree.specs.declared.place.Place.{Place}
use Rattle.mc_tree.specs.declared.token.Token.{Token}
use Rattle.mc_tree.specs.declared.tree.Tree.{Tree}
use Rattle.mc_tree.specs.Sources.{Spells, HasFirstFault}
use Rattle.mc_parse.specs.declared.fault.ParseFault.{ParseFault}
use Rattle.mc_parse.specs.declared.fault.ParseFault.TheVariants.{Unexpected, TooDeep, Memory as ParseMemory}
use Rattle.mc_parse.specs.Answers.{IsAnswered}
use Rattle.mc_parse.specs.Refusals.{fault_of}
use Rattle.mc_prog.specs.Resolved.{Resolved}
use Rattle.mc_rules.specs.RuleFaults.{HasNoRuleFault}
use Rattle.mc_straight.specs.Form.{Straight, IsStraight}
use Rattle.mc_compile.specs.declared.refusal.Refusal.{Refusal}
use Rattle.mc_compile.specs.declared.refusal.Refusal.TheVariants.{Source, TooLarge, NotYet, Memory}
use Rattle.mc_compile.specs.Accepted.{IsParsed, unexpected, too_deep, IsTextFault, lexical, grammar, IsTyped, IsTreeFault, rule, IsAcceptedTree, IsTooLargeTree, IsAccepted, IsTooLarge, IsSourceFault, of_text, of_tree, IsNotBuilt, Refuses, IsRefused, IsNotCompiled, IsRefusedText, IsRefusedTree, IsRefusedProgram, IsOtherTree, IsNotCompiledTree, refusal_of}
use Rattle.mc_compile.specs.Laws.{one_tree, one_source_fault, faultless_no_fault, one_program, accepted_not_large}

pub if_ok : {T E : Type 0} (P Q : T → Type 0) (r : Result T E) → ((x : T) → P x → Q x) → IfOk r P → IfOk r Q
if_ok P Q (Ok x) f h = f x h
if_ok P Q (Err e) f h = h

pub if_err : {T E : Type 0} (P Q : E → Type 0) (r : Result T E) → ((e : E) → P e → Q e) → IfErr r P → IfErr r Q
if_err P Q (Ok x) f h = h
if_err P Q (Err e) f h = f e h

pub if_both : {T E : Type 0} (P Q R : T → Type 0) (r : Result T E) → ((x : T) → P x → Q x → R x) → IfOk r P → IfOk r Q → IfOk r R
if_both P Q R (Ok x) f h k = f x h k
if_both P Q R (Err e) f h k = h

-- a refusal for other reasons
refuses_as : (F G : Fault → Type 0) (L M O N : Type 0) (refusal : Refusal) → ((fault : Fault) → F fault → G fault) → (L → M) → (O → N) → Refuses F L O refusal → Refuses G M N refusal
refuses_as F G L M O N (Source code place) f l o h = f (record { code = code; place = place }) h
refuses_as F G L M O N TooLarge f l o h = l h
refuses_as F G L M O N NotYet f l o h = o h
refuses_as F G L M O N Memory f l o h = h

-- The text

pub lexical_refused : (source : List ℕ) (fault : Option Fault) → IfSome fault (λ f. HasFirstFault f.code f.place source) → IsRefusedText source (refusal_of fault)
lexical_refused source None h = tt
lexical_refused source (Some fault) h = lexical h

pub grammar_refused : (source : List ℕ) (tokens : List Token) (end : Place) (fault : ParseFault) → Spells tokens end source → IsAnswered end tokens fault → IsRefusedText source (refusal_of (fault_of fault))
grammar_refused source tokens end (Unexpected place) spelled h = grammar tokens end spelled (unexpected refl h)
grammar_refused source tokens end (TooDeep place) spelled h = grammar tokens end spelled (too_deep refl h)
grammar_refused source tokens end ParseMemory spelled h = tt

pub text_refused : (source : List ℕ) (N : Type 0) (refusal : Refusal) → IsRefusedText source refusal → Refuses (IsSourceFault source) (IsTooLarge source) N refusal
text_refused source N refusal h = refuses_as (IsTextFault source) (IsSourceFault source) ⊥ (IsTooLarge source) ⊥ N refusal (λ f t. of_text t) (λ x. absurd x) (λ x. absurd x) h

-- The tree

pub program_accepted : (tree : Tree) (tokens : ℕ) (program kept : Resolved) → IsTyped tree tokens program → kept ≡ program → HasNoRuleFault kept → kept.size ≤ 20000 → IsAcceptedTree tree tokens kept
program_accepted tree tokens program kept typed same rules small =
    record { faultless = record { typed = subst (λ (p : Resolved). IsTyped tree tokens p) (sym same) typed; no_rule_fault = rules }; small = small }

pub program_refused : (tree : Tree) (tokens : ℕ) (program : Resolved) (refusal : Refusal) → IsTyped tree tokens program → IsRefusedProgram program refusal → IsRefusedTree tree tokens refusal
program_refused tree tokens program (Source code place) typed h = rule program typed h
program_refused tree tokens program TooLarge typed h = record { program = program; faultless = record { typed = typed; no_rule_fault = h.0 }; large = h.1 }
program_refused tree tokens program NotYet typed h = h
program_refused tree tokens program Memory typed h = h

-- an accepted tree of which no image is made
pub form_refused : (tree : Tree) (tokens : ℕ) (program : Resolved) (refusal : Refusal) → IsAcceptedTree tree tokens program → Refuses (λ fault. ⊥) ⊥ ((form : Straight) → IsStraight tree form → ⊥) refusal → IsNotCompiledTree tree tokens refusal
form_refused tree tokens program refusal accepted h =
    refuses_as (λ fault. ⊥) (IsTreeFault tree tokens) ⊥ (IsTooLargeTree tree tokens) ((form : Straight) → IsStraight tree form → ⊥) (IsOtherTree tree tokens) refusal (λ f x. absurd x) (λ x. absurd x) (λ no_form. record { program = program; accepted = accepted; no_form = no_form }) h

pub tree_refused : (tree : Tree) (tokens : ℕ) (refusal : Refusal) → IsRefusedTree tree tokens refusal → IsNotCompiledTree tree tokens refusal
tree_refused tree tokens refusal h =
    refuses_as (IsTreeFault tree tokens) (IsTreeFault tree tokens) (IsTooLargeTree tree tokens) (IsTooLargeTree tree tokens) ⊥ (IsOtherTree tree tokens) refusal (λ f x. x) (λ x. x) (λ x. absurd x) h

-- The source

pub source_accepted : (source : List ℕ) (tree : Tree) (tokens : ℕ) (program : Resolved) → IsParsed source tree tokens → IsAcceptedTree tree tokens program → IsAccepted source program
source_accepted source tree tokens program parsed a =
    record { faultless = record { tree = tree; tokens = tokens; parsed = parsed; faultless = a.faultless }; small = a.small }

large_source : (source : List ℕ) (tree : Tree) (tokens : ℕ) → IsParsed source tree tokens → IsTooLargeTree tree tokens → IsTooLarge source
large_source source tree tokens parsed l =
    record { program = l.program; faultless = record { tree = tree; tokens = tokens; parsed = parsed; faultless = l.faultless }; large = l.large }

other_source : (source : List ℕ) (tree : Tree) (tokens : ℕ) → IsParsed source tree tokens → IsOtherTree tree tokens → IsNotBuilt source
other_source source tree tokens parsed other =
    record {
      program = other.program;
      accepted = source_accepted source tree tokens other.program parsed other.accepted;
      no_form = λ form s.
          let l : ℕ = length s.tokens in
          let k : IsParsed source s.tree l = record { read = s.tokens; end = s.end; spelled = s.spelled; parsed = s.parsed; count = refl } in
          other.no_form form (subst (λ (t : Tree). IsStraight t form) (one_tree source s.tree tree l tokens k parsed).0 s.straight);
    }

pub source_refused : (source : List ℕ) (tree : Tree) (tokens : ℕ) (refusal : Refusal) → IsParsed source tree tokens → IsRefusedTree tree tokens refusal → IsRefused source refusal
source_refused source tree tokens refusal parsed h =
    refuses_as (IsTreeFault tree tokens) (IsSourceFault source) (IsTooLargeTree tree tokens) (IsTooLarge source) ⊥ ⊥ refusal (λ f t. of_tree tree tokens parsed t) (large_source source tree tokens parsed) (λ x. x) h

pub source_not_compiled : (source : List ℕ) (tree : Tree) (tokens : ℕ) (refusal : Refusal) → IsParsed source tree tokens → IsNotCompiledTree tree tokens refusal → IsNotCompiled source refusal
source_not_compiled source tree tokens refusal parsed h =
    refuses_as (IsTreeFault tree tokens) (IsSourceFault source) (IsTooLargeTree tree tokens) (IsTooLarge source) (IsOtherTree tree tokens) (IsNotBuilt source) refusal (λ f t. of_tree tree tokens parsed t) (large_source source tree tokens parsed) (other_source source tree tokens parsed) h

-- What the source is, is answered.

pub accepted_answered : (source : List ℕ) (result : Result Resolved Refusal) → IfOk result (IsAccepted source) → IfErr result (IsRefused source) → (program : Resolved) → IsAccepted source program → MatchResult result (λ p. p ≡ program) (λ refusal. refusal ≡ Memory)
accepted_answered source (Ok p) accepted refused program h = one_program source p program accepted.faultless h.faultless
accepted_answered source (Err (Source code place)) accepted refused program h = absurd (faultless_no_fault source program (record { code = code; place = place }) h.faultless refused)
accepted_answered source (Err TooLarge) accepted refused program h = absurd (accepted_not_large source program h refused)
accepted_answered source (Err NotYet) accepted refused program h = absurd refused
accepted_answered source (Err Memory) accepted refused program h = refl

pub fault_answered : (source : List ℕ) (result : Result Resolved Refusal) → IfOk result (IsAccepted source) → IfErr result (IsRefused source) → (fault : Fault) → IsSourceFault source fault → MatchResult result (λ program. ⊥) (λ refusal. (refusal ≡ Memory) ⊎ (refusal ≡ Source fault.code fault.place))
fault_answered source (Ok program) accepted refused fault h = faultless_no_fault source program fault accepted.faultless h
fault_answered source (Err (Source code place)) accepted refused fault h =
    let same = one_source_fault source (record { code = code; place = place }) fault refused h in inr (λ i. Source (same i).code (same i).place)
fault_answered source (Err TooLarge) accepted refused fault h = absurd (faultless_no_fault source refused.program fault refused.faultless h)
fault_answered source (Err NotYet) accepted refused fault h = absurd refused
fault_answered source (Err Memory) accepted refused fault h = inl refl

pub size_answered : (source : List ℕ) (result : Result Resolved Refusal) → IfOk result (IsAccepted source) → IfErr result (IsRefused source) → IsTooLarge source → MatchResult result (λ program. ⊥) (λ refusal. (refusal ≡ Memory) ⊎ (refusal ≡ TooLarge))
size_answered source (Ok program) accepted refused h = accepted_not_large source program accepted h
size_answered source (Err (Source code place)) accepted refused h = absurd (faultless_no_fault source h.program (record { code = code; place = place }) h.faultless refused)
size_answered source (Err TooLarge) accepted refused h = inr refl
size_answered source (Err NotYet) accepted refused h = absurd refused
size_answered source (Err Memory) accepted refused h = inl refl
