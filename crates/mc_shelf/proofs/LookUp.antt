-- What a look-up gives after a file was saved or taken out.
use Rattle.std.proofs.Common.{◌≡◌, ℕ, Bool, true, false, not, cond, List, [], ◌∷◌, ◌++◌, Option, Some, None, refl, sym, ◌∙◌, ap, bytes_eq, append-nil, filter}
use Rattle.std.proofs.lemmas.Bool.{false≢true}
use Rattle.std.proofs.lemmas.Slice.Eq.{bytes_eq-Decides}
use Rattle.mc_shelf.specs.declared.files.MemFile.{MemFile}
use Rattle.mc_shelf.specs.Outside.{placed}
use Rattle.mc_shelf.specs.Kept.{file_of}

-- the files but those of this name
abbrev pub others : List ℕ → List MemFile → List MemFile
others name files = filter (λ f. not (bytes_eq f.name name)) files

-- two equal names: tests of either against a third agree
agree : (a b : List ℕ) (P : List ℕ → Bool) (x y : Bool) → bytes_eq a b ≡ true → P a ≡ x → P b ≡ y → x ≡ y
agree a b P x y h ea eb = sym ea ∙ ap P ((bytes_eq-Decides a b).0 h) ∙ eb

turned : (a b : List ℕ) → bytes_eq a b ≡ true → bytes_eq b a ≡ true
turned a b h = (bytes_eq-Decides b a).1 (sym ((bytes_eq-Decides a b).0 h))

-- one more file at the head: a, whether it bears the name that changes; b, whether it bears the name that is sought;
-- c, whether these are one name
step : (f : MemFile) (kept files : List MemFile) (name other : List ℕ) (now : Option (List ℕ)) (a b c : Bool) → bytes_eq f.name name ≡ a → bytes_eq f.name other ≡ b → bytes_eq other name ≡ c → file_of kept other ≡ cond (bytes_eq other name) now (file_of files other) → file_of (cond (not (bytes_eq f.name name)) (f ∷ kept) kept) other ≡ cond (bytes_eq other name) now (file_of (f ∷ files) other)
step f kept files name other now true b true ea eb ec ih = rw (ea, ec) (rw ec at ih)
step f kept files name other now true true false ea eb ec ih = absurd (false≢true (sym (agree f.name other (λ n. bytes_eq n name) true false eb ea ec)))
step f kept files name other now true false false ea eb ec ih = rw (ea, eb, ec) (rw ec at ih)
step f kept files name other now false true true ea eb ec ih = absurd (false≢true (agree f.name other (λ n. bytes_eq n name) false true eb ea ec))
step f kept files name other now false true false ea eb ec ih = rw (ea, eb, ec) refl
step f kept files name other now false false c ea eb ec ih = rw (ea, eb) ih

cond-append : (b : Bool) (f : MemFile) (kept tail : List MemFile) → cond b (f ∷ kept) kept ++ tail ≡ cond b (f ∷ (kept ++ tail)) (kept ++ tail)
cond-append true f kept tail = refl
cond-append false f kept tail = refl

-- the other files stand, and behind them a tail that speaks of this name alone
looked_up : (files tail : List MemFile) (name : List ℕ) (now : Option (List ℕ)) → ((other : List ℕ) → file_of tail other ≡ cond (bytes_eq other name) now None) → (other : List ℕ) → file_of (others name files ++ tail) other ≡ cond (bytes_eq other name) now (file_of files other)
looked_up [] tail name now base other = base other
looked_up (f ∷ files) tail name now base other =
    rw (cond-append (not (bytes_eq f.name name)) f (others name files) tail)
    (step f (others name files ++ tail) files name other now _ _ _ refl refl refl (looked_up files tail name now base other))

cond-same : (b : Bool) → None ≡ cond {A = Option (List ℕ)} b None None
cond-same true = refl
cond-same false = refl

alone : (f : MemFile) (other : List ℕ) (b c : Bool) → bytes_eq f.name other ≡ b → bytes_eq other f.name ≡ c → file_of (f ∷ []) other ≡ cond (bytes_eq other f.name) (Some f.bytes) None
alone f other true true eb ec = rw (eb, ec) refl
alone f other true false eb ec = absurd (false≢true (sym ec ∙ turned f.name other eb))
alone f other false true eb ec = absurd (false≢true (sym eb ∙ turned other f.name ec))
alone f other false false eb ec = rw (eb, ec) refl

-- after a save
pub saved : (files now : List MemFile) (f : MemFile) → now ≡ others f.name files ++ f ∷ [] → Some (file_of now) ≡ placed (Some (file_of files)) f.name (Some f.bytes)
saved files now f is =
    rw is (ap Some (λ i other. looked_up files (f ∷ []) f.name (Some f.bytes) (λ n. alone f n _ _ refl refl) other i))

-- after the file of a name was taken out
pub removed : (files now : List MemFile) (name : List ℕ) → now ≡ others name files → Some (file_of now) ≡ placed (Some (file_of files)) name None
removed files now name is =
    rw (is, sym (append-nil (others name files)))
    (ap Some (λ i other. looked_up files [] name None (λ n. cond-same (bytes_eq n name)) other i))
