-- Loads and saves, one behind the other, are those of a whole command.
use Rattle.std.proofs.Common.{◌≡◌, ◌≤◌, ℕ, List, [], ◌∷◌, ◌++◌, length, Option, Some, None, Ok, Err, refl, sym, ap, ◌∙◌, subst, arith, append_assoc}
use Rattle.std.proofs.lemmas.List.{append-nil}
use Rattle.mc_shelf.specs.declared.ask.Ask.{Ask}
use Rattle.mc_shelf.specs.declared.ask.Ask.TheVariants.{Load, Save}
use Rattle.mc_shelf.specs.Outside.{Files, content, asks, View}
use Rattle.mc_words.specs.Settings.{Numbers, AnswersSettings, AnswersSettings-unique}
use Rattle.mc_image.specs.Image.{ImageState}
use Rattle.mc_image.specs.Format.{IsImage}
use Rattle.mc_image.specs.Laws.{IsImage-unique, IsImage-no_fault}
use Rattle.mc_compile.specs.Laws.{faultless_no_fault, accepted_not_large}
use Rattle.mc_compile.specs.Tracks.{CompiledFrom}
use Rattle.mc_driver.specs.declared.files.FileKind.{FileKind}
use Rattle.mc_driver.specs.Outside.{BeginsWith, AsksPart, asks_all}
use Rattle.mc_driver.specs.Stages.{most, AfterLoad, long_file, loaded, AfterImage, no_image, an_image, AfterReadingSettings, no_settings, some_settings}
use Rattle.mc_driver.specs.CompileAnswer.{AfterCompiling, no_image_for_fault, no_image_for_size, no_image_yet, saves}

-- nothing more is asked
pub asks_none : (asked : Option (List Ask)) → asked ≡ asks_all asked []
asks_none None = refl
asks_none (Some before) = ap (λ (l : List Ask). let o : Option (List Ask) = Some l in o) (sym (append-nil before))

-- one is asked, and then others
asks_then : (asked : Option (List Ask)) (ask : Ask) (more : List Ask) → asks_all (asks asked ask) more ≡ asks_all asked (ask ∷ more)
asks_then None ask more = refl
asks_then (Some before) ask more = ap (λ (l : List Ask). let o : Option (List Ask) = Some l in o) (append_assoc before (ask ∷ []) more)

pub one_more : (before between now : Option (List Ask)) (ask : Ask) (more : List Ask) → between ≡ asks before ask → now ≡ asks_all between more → now ≡ asks_all before (ask ∷ more)
one_more before between now ask more e f = f ∙ ap (λ (o : Option (List Ask)). asks_all o more) e ∙ asks_then before ask more

pub begins_none : (all : List Ask) → BeginsWith all []
begins_none all = record { rest = all; parts = refl }

begins_behind : (ask : Ask) (all more some : List Ask) → all ≡ ask ∷ more → BeginsWith more some → BeginsWith all (ask ∷ some)
begins_behind ask all more some e b = record { rest = b.rest; parts = e ∙ ap (λ (l : List Ask). ask ∷ l) b.parts }

begins_both : (all some front : List Ask) → BeginsWith all some → BeginsWith some front → BeginsWith all front
begins_both all some front a b = record {
  rest = b.rest ++ a.rest;
  parts = a.parts ∙ ap (λ (l : List Ask). l ++ a.rest) b.parts ∙ append_assoc front b.rest a.rest;
}

-- none is asked
pub asked_nothing : (v w : View) (wanted : List Ask) (Belong : Files → List Ask → Type 0) → w.asked ≡ v.asked → AsksPart v wanted Belong w
asked_nothing v w wanted Belong e = record {
  some = [];
  asked = e ∙ asks_none v.asked;
  in_order = begins_none wanted;
  none_behind = λ files told all is. begins_none all;
}

-- one is asked, with which each answer begins
pub asked_first : (v w : View) (ask : Ask) (more : List Ask) (Belong : Files → List Ask → Type 0) → w.asked ≡ asks v.asked ask → ((files : Files) → v.files ≡ Some files → (all : List Ask) → Belong files all → BeginsWith all (ask ∷ [])) → AsksPart v (ask ∷ more) Belong w
asked_first v w ask more Belong e first = record {
  some = ask ∷ [];
  asked = e;
  in_order = record { rest = more; parts = refl };
  none_behind = first;
}

-- one is asked, and then those of the rest of the command
pub asked_then : (v u w : View) (ask : Ask) (wanted : List Ask) (Belong Left : Files → List Ask → Type 0) → u.asked ≡ asks v.asked ask → u.files ≡ v.files → AsksPart u wanted Left w → ((files : Files) → v.files ≡ Some files → (all : List Ask) → Belong files all → (rest : List Ask) × (all ≡ ask ∷ rest) × Left files rest) → AsksPart v (ask ∷ wanted) Belong w
asked_then v u w ask wanted Belong Left e same a back = record {
  some = ask ∷ a.some;
  asked = one_more v.asked u.asked w.asked ask a.some e a.asked;
  in_order = begins_behind ask (ask ∷ wanted) wanted a.some refl a.in_order;
  none_behind = λ files told all is. let b = back files told all is in begins_behind ask all b.0 a.some b.1 (a.none_behind files (same ∙ told) b.0 b.2);
}

-- each answer begins with all that was wanted
pub asked_within : (v w : View) (wanted : List Ask) (Some_belong Belong : Files → List Ask → Type 0) → AsksPart v wanted Some_belong w → ((files : Files) → v.files ≡ Some files → (all : List Ask) → Belong files all → BeginsWith all wanted) → AsksPart v wanted Belong w
asked_within v w wanted Some_belong Belong a first = record {
  some = a.some;
  asked = a.asked;
  in_order = a.in_order;
  none_behind = λ files told all is. begins_both all wanted a.some (first files told all is) a.in_order;
}

-- more could have been asked
pub asked_more : (v w : View) (wanted more : List Ask) (Belong : Files → List Ask → Type 0) → AsksPart v wanted Belong w → AsksPart v (wanted ++ more) Belong w
asked_more v w wanted more Belong a = record {
  some = a.some;
  asked = a.asked;
  in_order = begins_both (wanted ++ more) wanted a.some (record { rest = more; parts = refl }) a.in_order;
  none_behind = a.none_behind;
}

-- Steps of an answer, read from its front

-- each answer behind a load has asked for it
pub load_first : (kind : FileKind) (name : List ℕ) (Next : List ℕ → List Ask → ℕ → List ℕ → Type 0) (known : Option Files) (asked : List Ask) (status : ℕ) (text : List ℕ) → AfterLoad kind name Next known asked status text → BeginsWith asked (Load name ∷ [])
load_first kind name Next known asked status text (long_file bytes reads e long is) = record { rest = []; parts = e }
load_first kind name Next known asked status text (loaded bytes rest reads e short next) = record { rest = rest; parts = e }

-- a file that is not too long is loaded
pub load_back : (kind : FileKind) (name bytes : List ℕ) (Next : List ℕ → List Ask → ℕ → List ℕ → Type 0) (files : Files) (asked : List Ask) (status : ℕ) (text : List ℕ) → length bytes ≤ most kind → bytes ≡ content files name → AfterLoad kind name Next (Some files) asked status text → (rest : List Ask) × (asked ≡ Load name ∷ rest) × Next bytes rest status text
load_back kind name bytes Next files asked status text fits is (long_file other reads e long line) =
    let same : bytes ≡ other = is ∙ sym (reads files refl) in
    let short : length other ≤ most kind = subst (λ (b : List ℕ). length b ≤ most kind) same fits in absurd (omega (arith, short, long))
load_back kind name bytes Next files asked status text fits is (loaded other rest reads e short next) =
    (rest, e, subst (λ (b : List ℕ). Next b rest status text) (reads files refl ∙ sym is) next)

-- an image goes on as itself
pub image_back : (bytes : List ℕ) (image : ImageState) (Next : ImageState → List Ask → ℕ → List ℕ → Type 0) (asked : List Ask) (status : ℕ) (text : List ℕ) → IsImage bytes image → AfterImage bytes Next asked status text → Next image asked status text
image_back bytes image Next asked status text is (no_image fault has e line) = absurd (IsImage-no_fault bytes image fault is has)
image_back bytes image Next asked status text is (an_image other also next) =
    subst (λ (i : ImageState). Next i asked status text) (IsImage-unique bytes other image also is) next

-- settings go on as themselves
pub settings_back : (bytes : List ℕ) (numbers : Numbers) (Next : Numbers → List Ask → ℕ → List ℕ → Type 0) (asked : List Ask) (status : ℕ) (text : List ℕ) → AnswersSettings bytes (Ok numbers) → AfterReadingSettings bytes Next asked status text → Next numbers asked status text
settings_back bytes numbers Next asked status text is (no_settings fault other has e line) =
    let both = AnswersSettings-unique bytes (Ok numbers) (Err fault) is has in cc both
settings_back bytes numbers Next asked status text is (some_settings others also next) =
    let both = AnswersSettings-unique bytes (Ok others) (Ok numbers) also is in
    let same : others ≡ numbers = cc both in
    subst (λ (n : Numbers). Next n asked status text) same next

-- a source that is compiled is saved
pub compiled_first : (source : List ℕ) (settings : Numbers) (name : List ℕ) (image : ImageState) (before after : Option Files) (asked : List Ask) (status : ℕ) (text : List ℕ) → CompiledFrom source settings.workspace_words settings.processes image → AfterCompiling source settings name before after asked status text → BeginsWith asked (Save name ∷ [])
compiled_first source settings name image before after asked status text made (no_image_for_fault fault has e line) =
    absurd (faultless_no_fault source made.program fault made.accepted.faultless has)
compiled_first source settings name image before after asked status text made (no_image_for_size large e line) =
    absurd (accepted_not_large source made.program made.accepted large)
compiled_first source settings name image before after asked status text made (no_image_yet other e line) = absurd (other.no_form made.form made.straight)
compiled_first source settings name image before after asked status text made (saves other also saved) = record { rest = []; parts = saved.one_ask }
