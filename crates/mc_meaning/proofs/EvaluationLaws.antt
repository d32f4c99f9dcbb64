-- What steps of evaluation make of a configuration, from the equations of their parts.
use Rattle.std.specs.Prelude.{◌≡◌, ℕ, ◌==◌, not, List, ◌∷◌, ◌++◌, Option, None, Result, Ok, Err, OnOk, OnErr, Bool, true, false, if◌then◌else◌}
use Rattle.std.proofs.Common.{ap, ◌∙◌, sym, refl}
use Rattle.mc_prog.specs.Resolved.{Resolved}
use Rattle.mc_prog.specs.Values.{Outcome, Gives, Traps, truth}
use Rattle.mc_meaning.specs.declared.process.Item.{Item}
use Rattle.mc_meaning.specs.declared.process.Item.TheVariants.{Evaluates}
use Rattle.mc_meaning.specs.declared.store.Found.{Found}
use Rattle.mc_meaning.specs.declared.store.Found.TheVariants as found
use Rattle.mc_meaning.specs.declared.store.Target.{Target}
use Rattle.mc_meaning.specs.Access.{after_reading, after_writing, after_writing_bit, bit_of, element_offset, value_of, word_at}
use Rattle.mc_meaning.specs.Actions.{trapped}
use Rattle.mc_meaning.specs.Configuration.{Configuration, ProcessState}
use Rattle.mc_meaning.specs.Operations.{binary, unary}
use Rattle.mc_meaning.specs.Parts.{form_at, part_at, type_at}
use Rattle.mc_meaning.specs.Steps.{at_element, decide, finds, gives, goes_on, index, is_decided, operate, read, read_bit, replaced, write, write_bit}
use Rattle.mc_meaning.proofs.WritingLaws.{bits_later, writing_later}

pub ok-then : {A E : Type 0} (r : Result A E) (P Q : Type 0) → (P → Q) → OnOk r P → OnOk r Q
ok-then (Ok x) P Q f h = f h
ok-then (Err e) P Q f h = h

pub err-then : {A E : Type 0} (r : Result A E) (P Q : Type 0) → (P → Q) → OnErr r P → OnErr r Q
err-then (Ok x) P Q f h = h
err-then (Err e) P Q f h = f h

pub either-way : {A E : Type 0} (r : Result A E) (P Q : Type 0) → (P → Q) → OnOk r P → OnErr r Q → Q
either-way (Ok x) P Q f h k = f h
either-way (Err e) P Q f h k = k

pub found-more : (c new : Configuration) (n : ℕ) (q r : ProcessState) (f : Found) (rest : List Item)
    → r ≡ record q { found = f ∷ q.found } → new ≡ goes_on c n r r.found rest → new ≡ finds c n q f rest
found-more c new n q r f rest e step = step ∙ ap (λ (s : ProcessState). goes_on c n s s.found rest) e

pub put-in-front : (c new : Configuration) (n : ℕ) (q : ProcessState) (items rest more : List Item)
    → more ≡ items ++ rest → new ≡ goes_on c n q q.found more → new ≡ replaced c n q items rest
put-in-front c new n q items rest more e step = step ∙ ap (λ (m : List Item). goes_on c n q q.found m) e

pub word-read : (c mid new : Configuration) (n t : ℕ) (q one two : ProcessState) (there : Target) (w v : ℕ) (rest : List Item)
    → q ≡ record one { found = found.Named there ∷ one.found } → w ≡ word_at c there → v ≡ value_of t there w
    → two ≡ record one { found = found.Value v ∷ one.found } → mid ≡ after_reading c there → new ≡ goes_on mid n two two.found rest
    → new ≡ read c n q t rest q.found
word-read c mid new n t q one two there w v rest taken word value put reads step =
    step ∙ ap (λ (m : Configuration). goes_on m n two two.found rest) reads
    ∙ ap (λ (s : ProcessState). goes_on (after_reading c there) n s s.found rest) put
    ∙ ap (λ (x : ℕ). goes_on (after_reading c there) n (record one { found = found.Value x ∷ one.found }) (found.Value x ∷ one.found) rest) (value ∙ ap (λ (y : ℕ). value_of t there y) word)
    ∙ sym (ap (λ (s : ProcessState). read c n s t rest s.found) taken)

pub twice : (q one two : ProcessState) (f g : Found) → q ≡ record one { found = f ∷ one.found } → one ≡ record two { found = g ∷ two.found }
    → q ≡ record two { found = f ∷ (g ∷ two.found) }
twice q one two f g first second = first ∙ ap (λ (s : ProcessState). record s { found = f ∷ s.found }) second

pub word-written : (c mid new : Configuration) (n : ℕ) (q one two : ProcessState) (there : Target) (w : ℕ) (rest : List Item)
    → q ≡ record one { found = found.Value w ∷ one.found } → one ≡ record two { found = found.Named there ∷ two.found }
    → mid ≡ after_writing c there w → new ≡ goes_on mid n two two.found rest → new ≡ write c n q rest q.found
word-written c mid new n q one two there w rest first second writes step =
    step ∙ ap (λ (m : Configuration). goes_on m n two two.found rest) writes ∙ writing_later c n two two.found rest there w
    ∙ sym (ap (λ (s : ProcessState). write c n s rest s.found) (twice q one two (found.Value w) (found.Named there) first second))

pub no-element : (p : Resolved) (c new : Configuration) (n node : ℕ) (q one two : ProcessState) (there : Target) (w : ℕ) (offset : Option ℕ) (rest : List Item)
    → q ≡ record one { found = found.Value w ∷ one.found } → one ≡ record two { found = found.Named there ∷ two.found }
    → offset ≡ element_offset p node w → offset ≡ None → new ≡ trapped c 1 → new ≡ index p c n q node rest q.found
no-element p c new n node q one two there w offset rest first second is none step =
    step ∙ sym (ap (λ (o : Option ℕ). at_element c n (record two { found = found.Value w ∷ (found.Named there ∷ two.found) }) there two.found rest o) (sym is ∙ none))
    ∙ sym (ap (λ (s : ProcessState). index p c n s node rest s.found) (twice q one two (found.Value w) (found.Named there) first second))

gives-found : (c : Configuration) (n : ℕ) (r : ProcessState) (g f : List Found) (rest : List Item) (o : Outcome) → gives c n (record r { found = g }) f rest o ≡ gives c n r f rest o
gives-found c n r g f rest (Gives w) = refl
gives-found c n r g f rest (Traps k) = refl

pub operated-one : (p : Resolved) (c new : Configuration) (n node : ℕ) (q r : ProcessState) (a : ℕ) (o : Outcome) (rest : List Item)
    → q ≡ record r { found = found.Value a ∷ r.found } → o ≡ unary p node (type_at p (part_at p node 0)) (form_at p node) a → new ≡ gives c n r r.found rest o
    → new ≡ operate p c n q node rest false q.found
operated-one p c new n node q r a o rest pop out step =
    step ∙ ap (λ (x : Outcome). gives c n r r.found rest x) out ∙ sym (gives-found c n r (found.Value a ∷ r.found) r.found rest _)
    ∙ sym (ap (λ (s : ProcessState). operate p c n s node rest false s.found) pop)

pub operated-two : (p : Resolved) (c new : Configuration) (n node : ℕ) (q one two : ProcessState) (a b : ℕ) (o : Outcome) (rest : List Item)
    → q ≡ record one { found = found.Value b ∷ one.found } → one ≡ record two { found = found.Value a ∷ two.found }
    → o ≡ binary (form_at p node) a b → new ≡ gives c n two two.found rest o
    → new ≡ operate p c n q node rest true q.found
operated-two p c new n node q one two a b o rest first second out step =
    step ∙ ap (λ (x : Outcome). gives c n two two.found rest x) out ∙ sym (gives-found c n two (found.Value b ∷ (found.Value a ∷ two.found)) two.found rest _)
    ∙ sym (ap (λ (s : ProcessState). operate p c n s node rest true s.found) (twice q one two (found.Value b) (found.Value a) first second))

pub goes-right : (p : Resolved) (c new : Configuration) (n node : ℕ) (q r : ProcessState) (w : ℕ) (rest more : List Item)
    → q ≡ record r { found = found.Value w ∷ r.found } → false ≡ is_decided (form_at p node) w → more ≡ Evaluates (part_at p node 1) ∷ rest → new ≡ goes_on c n r r.found more
    → new ≡ decide p c n q node rest q.found
goes-right p c new n node q r w rest more pop not-decided items step =
    step ∙ ap (λ (m : List Item). goes_on c n r r.found m) items
    ∙ ap (λ (b : Bool). if b then goes_on c n r (found.Value w ∷ r.found) rest else goes_on c n r r.found (Evaluates (part_at p node 1) ∷ rest)) not-decided
    ∙ sym (ap (λ (s : ProcessState). decide p c n s node rest s.found) pop)

pub bit-read : (c mid new : Configuration) (n i : ℕ) (q one two : ProcessState) (there : Target) (w v : ℕ) (rest : List Item)
    → q ≡ record one { found = found.Bit there i ∷ one.found } → w ≡ word_at c there → v ≡ bit_of w i
    → two ≡ record one { found = found.Value v ∷ one.found } → mid ≡ after_reading c there → new ≡ goes_on mid n two two.found rest
    → new ≡ read_bit c n q rest q.found
bit-read c mid new n i q one two there w v rest taken word value put reads step =
    step ∙ ap (λ (m : Configuration). goes_on m n two two.found rest) reads
    ∙ ap (λ (s : ProcessState). goes_on (after_reading c there) n s s.found rest) put
    ∙ ap (λ (x : ℕ). goes_on (after_reading c there) n (record one { found = found.Value x ∷ one.found }) (found.Value x ∷ one.found) rest) (value ∙ ap (λ (y : ℕ). bit_of y i) word)
    ∙ sym (ap (λ (s : ProcessState). read_bit c n s rest s.found) taken)

pub bit-written : (c mid new : Configuration) (n i : ℕ) (q one two : ProcessState) (there : Target) (w : ℕ) (rest : List Item)
    → q ≡ record one { found = found.Value w ∷ one.found } → one ≡ record two { found = found.Bit there i ∷ two.found }
    → mid ≡ after_writing_bit c there i (truth (not (w == 0))) → new ≡ goes_on mid n two two.found rest → new ≡ write_bit c n q rest q.found
bit-written c mid new n i q one two there w rest first second writes step =
    step ∙ ap (λ (m : Configuration). goes_on m n two two.found rest) writes ∙ bits_later c n two two.found rest there i (truth (not (w == 0)))
    ∙ sym (ap (λ (s : ProcessState). write_bit c n s rest s.found) (twice q one two (found.Value w) (found.Bit there i) first second))
