-- What the reading of a whole program says of its tokens, and that they have one answer.
use Rattle.std.specs.Prelude.{◌≡◌, List, [], ◌∷◌, length, Result, Ok, Err, ◌⊎◌, IfOk, IfErr, IsErrAnd, MatchResult}
use Rattle.std.proofs.Common.{ap, ◌∙◌, sym, subst, inl, inr, arith, refl}
use Rattle.mc_tree.specs.declared.place.Place.{Place}
use Rattle.mc_tree.specs.declared.token.Token.{Token}
use Rattle.mc_tree.specs.declared.tree.Tree.{Tree}
use Rattle.mc_tree.specs.Grammar.{ProgramPhrase}
use Rattle.mc_tree.specs.Phrases.{Trees}
use Rattle.mc_tree.specs.Programs.{IsTreeOf}
use Rattle.mc_tree.specs.Unique.{tokens_of-one_tree}
use Rattle.mc_parse.specs.declared.fault.ParseFault.{ParseFault}
use Rattle.mc_parse.specs.declared.fault.ParseFault.TheVariants.{Unexpected, TooDeep, Memory}
use Rattle.mc_parse.specs.Answers.{IsAnswered}
use Rattle.mc_parse.specs.Decode.{decode, mapped}
use Rattle.mc_parse.specs.Reads.{reading, IsRead, IsRefused}
use Rattle.mc_parse.specs.Verdicts.{start, IsFault, decode-tree, decode-fault, one_fault, no_fault}

-- a program with nothing behind it
pub parsed : (end : Place) (ts others : List Token) (tree : Tree) → IsRead end 0 ProgramPhrase ts tree others → length others ≡ 0 → IsTreeOf tree ts
unfolding reading
parsed end ts [] tree r e = decode-tree end ts (tree, tt) (r.reads [])
parsed end ts (t ∷ others) tree r e = absurd (omega arith)

-- a program with a token behind it
pub trailing : (end : Place) (ts others : List Token) (tree : Tree) (t : Token) (more : List Token) → IsRead end 0 ProgramPhrase ts tree others → others ≡ t ∷ more → IsAnswered end ts (Unexpected t.place)
unfolding reading
trailing end ts others tree t more r e =
    decode-fault end ts (Unexpected t.place) (r.reads [] ∙ ap (λ (o : List Token). mapped {B = Trees start} (λ (ks : Trees []). (tree, ks)) (decode end o [])) e)

-- no program
pub no_program : (end : Place) (ts : List Token) (fault : ParseFault) → IsRefused end 0 ProgramPhrase ts fault → IsAnswered end ts fault
unfolding reading
no_program end ts (Unexpected p) r = decode-fault end ts (Unexpected p) (r.refuses (λ e. cc) [])
no_program end ts (TooDeep p) r = decode-fault end ts (TooDeep p) (r.refuses (λ e. cc) [])
no_program end ts Memory r = tt

-- Tokens of a tree are answered by it, and tokens with a fault by that, where there is memory.
pub tree_answered : (end : Place) (ts : List Token) (answer : Result Tree ParseFault) → IfOk answer (λ tree. IsTreeOf tree ts) → IfErr answer (λ fault. IsAnswered end ts fault) → (tree : Tree) → IsTreeOf tree ts → MatchResult answer (λ found. found ≡ tree) (λ fault. fault ≡ Memory)
tree_answered end ts (Ok found) ok refused tree h = tokens_of-one_tree found tree (ok.tokens_are ∙ sym h.tokens_are)
tree_answered end ts (Err (Unexpected p)) ok refused tree h = absurd (no_fault end ts tree (Unexpected p) h refused)
tree_answered end ts (Err (TooDeep p)) ok refused tree h = absurd (no_fault end ts tree (TooDeep p) h refused)
tree_answered end ts (Err Memory) ok refused tree h = refl

pub fault_answered : (end : Place) (ts : List Token) (answer : Result Tree ParseFault) → IfOk answer (λ tree. IsTreeOf tree ts) → IfErr answer (λ fault. IsAnswered end ts fault) → (fault : ParseFault) → IsFault end ts fault → MatchResult answer (λ found. ⊥) (λ f. (f ≡ Memory) ⊎ (f ≡ fault))
fault_answered end ts (Ok found) ok refused fault h = no_fault end ts found fault ok h
fault_answered end ts (Err (Unexpected p)) ok refused fault h = inr (one_fault end ts (Unexpected p) fault refused h)
fault_answered end ts (Err (TooDeep p)) ok refused fault h = inr (one_fault end ts (TooDeep p) fault refused h)
fault_answered end ts (Err Memory) ok refused fault h = inl refl

-- a refusal that is handed on
pub refused_so : {T : Type 0} (end : Place) (ts : List Token) (r : Result T ParseFault) (fault : ParseFault) → IsErrAnd r (λ y. y ≡ fault) → IsRefused end 0 ProgramPhrase ts fault → IfErr r (λ f. IsAnswered end ts f)
refused_so end ts (Ok x) fault h refused = absurd h
refused_so end ts (Err y) fault h refused = subst (λ (f : ParseFault). IsAnswered end ts f) (sym h) (no_program end ts fault refused)
