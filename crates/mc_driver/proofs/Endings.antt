-- Loads and prints, one behind the other, are a whole command.
use Rattle.std.proofs.Common.{◌≡◌, ◌≢◌, ◌≤◌, ◌<◌, ◌-◌, ◌^◌, ◌⊎◌, ℕ, List, [], ◌∷◌, ◌++◌, length, Option, Some, Ok, refl, sym, ap, ◌∙◌, subst, arith, inl, inr}
use Rattle.std.proofs.lemmas.Bool.Decides.{eqb_tells}
use Rattle.mc_shelf.specs.declared.ask.Ask.{Ask}
use Rattle.mc_shelf.specs.declared.ask.Ask.TheVariants.{Load}
use Rattle.mc_shelf.specs.Outside.{Files, content, Told, Rose, appended, IsPart, View}
use Rattle.mc_shelf.specs.declared.shelf.PutFault.TheVariants.{Failed, Memory}
use Rattle.mc_words.specs.Settings.{Numbers, AnswersSettings}
use Rattle.mc_image.specs.Image.{ImageState}
use Rattle.mc_image.specs.Format.{IsImage}
use Rattle.mc_script.specs.Script.{ScriptState}
use Rattle.mc_script.specs.Texts.{IsText}
use Rattle.mc_driver.specs.declared.files.FileKind.{FileKind}
use Rattle.mc_driver.specs.declared.files.FileKind.TheVariants.{Script, Image, Settings}
use Rattle.mc_driver.specs.Outside.{BeginsWith, Reads, MayBe, IsKnown, AskedFor, IsInPieces, IsPieces, Prints, Breaks, Loaded, Says, IsSame, Unloaded, fails, no_memory, is_long, IsCut, Ends}
use Rattle.mc_driver.specs.Stages.{most, too_long_line, AfterLoad, long_file, loaded, AfterImage, no_image, an_image, AfterScript, no_script, a_script, AfterReadingSettings, no_settings, some_settings}
use Rattle.mc_driver.proofs.Known.{may_be, as_none, as_known, known_there, long_known}
use Rattle.mc_driver.proofs.Streams.{in_pieces}
use Rattle.mc_driver.proofs.Asking.{asks_none, one_more, begins_none, asked_nothing, asked_first, asked_then, asked_within, asked_more, load_first, load_back, image_back, settings_back}

not_rose : (before now : ℕ) → now ≡ before → before < 2 ^ 64 - 1 → Rose before now → ⊥
not_rose before now e h r = absurd (omega (arith, e, h, r))

-- what was printed, seen from where nothing was printed in between
pub part_from : (a b now : Option (List ℕ)) (text : List ℕ) → b ≡ a → IsPart b text now → IsPart a text now
part_from a b now text e p = subst (λ (x : Option (List ℕ)). IsPart x text now) e p

pub parts_from : (a b now : Option (List ℕ)) (text : List ℕ) → b ≡ a → IsPieces b text now → IsPieces a text now
parts_from a b now text e p = subst (λ (x : Option (List ℕ)). IsPieces x text now) e p

pub pieces_from : (a b now : Option (List ℕ)) (text : List ℕ) → b ≡ a → IsInPieces b text now → IsInPieces a text now
pieces_from a b now text e p = subst (λ (x : Option (List ℕ)). IsInPieces x text now) e p

-- a line is said
pub says_ends : (v w : View) (wanted : List Ask) (Answers : Option Files → List Ask → ℕ → List ℕ → Type 0) (line : List ℕ) (status result : ℕ) → status ≢ 14 → Says v line status result w → ((known : Option Files) → MayBe v known → Answers known [] status line) → Ends v wanted Answers result w
says_ends v w wanted Answers line status result short s is =
    record {
      answer = λ known k no11 no12.
          let said = s.said no11 no12 in
          record { some = []; text = line; answers = subst (λ (n : ℕ). Answers known [] n line) (sym said.0) (is known (may_be v w result known k)); asked = s.asked ∙ asks_none v.asked; printed = said.1 };
      cut = λ known k which. cut known (may_be v w result known k) which;
      failed = λ e. (s.failed e).0;
      grew = λ h. elim (eqb_tells result 11) [ inl e ↦ e.1 | inr e ↦ absurd (omega (arith, h, s.same e.1)) ];
      long = λ e. let no11 : result ≢ 11 = λ f. omega arith in let no12 : result ≢ 12 = λ f. omega arith in absurd (short (sym (s.said no11 no12).0 ∙ e));
      asked = asked_nothing v w wanted (AskedFor Answers) s.asked;
      files = s.files;
    }
  where
    cut : (known : Option Files) → MayBe v known → (result ≡ 11) ⊎ (result ≡ 12) → (w.printed ≡ v.printed) ⊎ IsCut v known Answers result w
    cut known may (inl e) = inr (record { some = []; status = status; text = line; answers = is known may; asked = s.asked ∙ asks_none v.asked; part = in_pieces v.printed line w.printed (s.failed e).1; tight = λ f. absurd (omega arith); pieces = λ f. absurd (omega arith) })
    cut known may (inr e) = inl (s.memory e)

-- there is no memory
pub memory_ends : (v : View) (w : View) (wanted : List Ask) (Answers : Option Files → List Ask → ℕ → List ℕ → Type 0) → IsSame v w → Ends v wanted Answers 12 w
memory_ends v w wanted Answers s =
    record {
      answer = λ known k no11 no12. absurd (no12 refl);
      cut = λ known k which. inl s.printed;
      failed = λ e. absurd (omega arith);
      grew = λ h. absurd (omega (arith, h, s.faults));
      long = λ e. absurd (omega arith);
      asked = asked_nothing v w wanted (AskedFor Answers) s.asked;
      files = s.files;
    }

-- a file is loaded, and then the rest of the command follows
pub loaded_ends : (v u w : View) (name : List ℕ) (most : ℕ) (bytes : List ℕ) (wanted : List Ask) (Answers Left : Option Files → List Ask → ℕ → List ℕ → Type 0) (result : ℕ) → Loaded v name most bytes u → Ends u wanted Left result w → ((known : Option Files) → MayBe v known → Reads known name bytes → (some : List Ask) (status : ℕ) (text : List ℕ) → Left known some status text → Answers known (Load name ∷ some) status text) → ((files : Files) → v.files ≡ Some files → bytes ≡ content files name → (all : List Ask) (status : ℕ) (text : List ℕ) → Answers (Some files) all status text → (rest : List Ask) × (all ≡ Load name ∷ rest) × Left (Some files) rest status text) → Ends v (Load name ∷ wanted) Answers result w
loaded_ends v u w name most bytes wanted Answers Left result l e map back =
    record {
      answer = λ known k no11 no12.
          let may = may_be v w result known k in
          let a = e.answer known (known_there v u w result known l.files l.faults k) no11 no12 in
          record {
            some = Load name ∷ a.some;
            text = a.text;
            answers = map known may (as_known v known (λ files. bytes ≡ content files name) may l.told) a.some result a.text a.answers;
            asked = one_more v.asked u.asked w.asked (Load name) a.some l.asked a.asked;
            printed = a.printed ∙ ap (λ (o : Option (List ℕ)). appended o a.text) l.printed;
          };
      cut = λ known k which. cut known (may_be v w result known k) (e.cut known (known_there v u w result known l.files l.faults k) which);
      failed = λ f. subst (λ (n : ℕ). Rose n w.faults) l.faults (e.failed f);
      grew = λ h. e.grew (subst (λ (n : ℕ). n < w.faults) (sym l.faults) h);
      long = λ f. subst (λ (n : ℕ). Rose n w.longs) l.longs (e.long f);
      asked = asked_then v u w (Load name) wanted (AskedFor Answers) (AskedFor Left) l.asked l.files e.asked
          (λ files told all is. let b = back files told (l.told files told) all is.0 is.1 is.2 in (b.0, b.1, (is.0, is.1, b.2)));
      files = e.files ∙ l.files;
    }
  where
    cut : (known : Option Files) → MayBe v known → (w.printed ≡ u.printed) ⊎ IsCut u known Left result w → (w.printed ≡ v.printed) ⊎ IsCut v known Answers result w
    cut known may (inl same) = inl (same ∙ l.printed)
    cut known may (inr c) =
        inr (record {
          some = Load name ∷ c.some;
          status = c.status;
          text = c.text;
          answers = map known may (as_known v known (λ files. bytes ≡ content files name) may l.told) c.some c.status c.text c.answers;
          asked = one_more v.asked u.asked w.asked (Load name) c.some l.asked c.asked;
          part = parts_from v.printed u.printed w.printed c.text l.printed c.part;
          tight = λ f h. c.tight f (l.room (length c.text) h);
          pieces = λ f. pieces_from v.printed u.printed w.printed c.text l.printed (c.pieces f);
        })

-- a file is not loaded
pub unloaded_ends : (v w : View) (name : List ℕ) (most : ℕ) (line : List ℕ) (wanted : List Ask) (Answers : Option Files → List Ask → ℕ → List ℕ → Type 0) (result : ℕ) → Unloaded v name most line result w → ((known : Option Files) → MayBe v known → (bytes : List ℕ) → Reads known name bytes → most < length bytes → Answers known (Load name ∷ []) 14 line) → ((files : Files) → v.files ≡ Some files → (all : List Ask) (status : ℕ) (text : List ℕ) → Answers (Some files) all status text → BeginsWith all (Load name ∷ [])) → Ends v (Load name ∷ wanted) Answers result w
unloaded_ends v w name most line wanted Answers result (fails is l) long first =
    record {
      answer = λ known k no11 no12. absurd (no11 is);
      cut = λ known k which. inl l.printed;
      failed = λ e. l.rose;
      grew = λ h. is;
      long = λ e. absurd (omega (arith, is, e));
      asked = asked_first v w (Load name) wanted (AskedFor Answers) l.asked (λ files told all b. first files told all b.0 b.1 b.2);
      files = l.files;
    }
unloaded_ends v w name most line wanted Answers result (no_memory is s) long first =
    record {
      answer = λ known k no11 no12. absurd (no12 is);
      cut = λ known k which. inl s.printed;
      failed = λ e. absurd (omega (arith, is, e));
      grew = λ h. absurd (omega (arith, h, s.faults));
      long = λ e. absurd (omega (arith, is, e));
      asked = asked_nothing v w (Load name ∷ wanted) (AskedFor Answers) s.asked;
      files = s.files;
    }
unloaded_ends v w name most line wanted Answers result (is_long u l s) long first =
    record {
      answer = λ known k no11 no12.
          let said = s.said no11 no12 in
          let is14 : result ≡ 14 = said.0 in
          record {
            some = Load name ∷ [];
            text = line;
            answers = subst (λ (n : ℕ). Answers known (Load name ∷ []) n line) (sym said.0) (too_long known (may_be v w result known k) (long_told known k (λ quiet room r. quiet is14 (subst (λ (n : ℕ). Rose v.faults n) (sym (s.same no11)) r))));
            asked = s.asked ∙ l.asked;
            printed = said.1 ∙ ap (λ (o : Option (List ℕ)). appended o line) l.printed;
          };
      cut = λ known k which. cut known k which;
      failed = λ e. subst (λ (n : ℕ). Rose n w.faults) l.faults (s.failed e).0;
      grew = λ h. elim (eqb_tells result 11) [ inl e ↦ e.1 | inr e ↦ absurd (omega (arith, h, s.same e.1, l.faults)) ];
      long = λ e. subst (λ (n : ℕ). Rose v.longs n) (sym s.longs) l.rose;
      asked = asked_first v w (Load name) wanted (AskedFor Answers) (s.asked ∙ l.asked) (λ files told all b. first files told all b.0 b.1 b.2);
      files = s.files ∙ l.files;
    }
  where
    too_long : (known : Option Files) → MayBe v known → Told known (λ files. most < length (content files name)) → Answers known (Load name ∷ []) 14 line
    too_long known may told = let b = long_known known name most told in long known may b.0 b.1.0 b.1.1

    -- the file is too long as it is told, where the count of failures shows that it was not for a failure
    long_told : (known : Option Files) → IsKnown v result w known → ((result ≡ 14 → Rose v.faults w.faults → ⊥) → (result ≡ 11 → v.faults < 2 ^ 64 - 1) → Rose v.faults u.faults → ⊥) → Told known (λ files. most < length (content files name))
    long_told known (inl e) calm = as_none known (λ files. most < length (content files name)) e
    long_told known (inr (e, quiet, room)) calm = as_known v known (λ files. most < length (content files name)) (inr e) (l.exactly (calm quiet room))

    cut : (known : Option Files) → IsKnown v result w known → (result ≡ 11) ⊎ (result ≡ 12) → (w.printed ≡ v.printed) ⊎ IsCut v known Answers result w
    cut known k (inl e) =
        inr (record {
          some = Load name ∷ [];
          status = 14;
          text = line;
          answers = too_long known (may_be v w result known k) (long_told known k (λ quiet room. not_rose v.faults u.faults l.faults (room e)));
          asked = s.asked ∙ l.asked;
          part = parts_from v.printed u.printed w.printed line l.printed (in_pieces u.printed line w.printed (s.failed e).1);
          tight = λ f. absurd (omega (arith, e, f));
          pieces = λ f. absurd (omega (arith, e, f));
        })
    cut known k (inr e) = inl (s.memory e ∙ l.printed)

-- a report is printed
pub report_ends : (v w : View) (Answers : Option Files → List Ask → ℕ → List ℕ → Type 0) (text : List ℕ) (status : ℕ) → status ≢ 11 → status ≢ 12 → status ≢ 14 → Prints v text w → ((known : Option Files) → MayBe v known → Answers known [] status text) → Ends v [] Answers status w
report_ends v w Answers text status no11 no12 no14 s is =
    record {
      answer = λ known k n11 n12. record { some = []; text = text; answers = is known (may_be v w status known k); asked = s.asked ∙ asks_none v.asked; printed = s.printed };
      cut = λ known k which. absurd (neither which);
      failed = λ e. absurd (no11 e);
      grew = λ h. absurd (omega (arith, h, s.faults));
      long = λ e. absurd (no14 e);
      asked = asked_nothing v w [] (AskedFor Answers) s.asked;
      files = s.files;
    }
  where
    neither : (status ≡ 11) ⊎ (status ≡ 12) → ⊥
    neither (inl e) = no11 e
    neither (inr e) = no12 e

-- a report could not be printed
pub breaks_ends : (v w : View) (Answers : Option Files → List Ask → ℕ → List ℕ → Type 0) (text : List ℕ) (status : ℕ) → Breaks v [] text Failed w → ((known : Option Files) → MayBe v known → Answers known [] status text) → Ends v [] Answers 11 w
breaks_ends v w Answers text status b is =
    record {
      answer = λ known k no11 no12. absurd (no11 refl);
      cut = λ known k which. inr (record { some = []; status = status; text = text; answers = is known (may_be v w 11 known k); asked = b.asked ∙ asks_none v.asked; part = in_pieces v.printed text w.printed b.part; tight = λ e. absurd (omega arith); pieces = λ e. absurd (omega arith) });
      failed = λ e. b.failed refl;
      grew = λ h. refl;
      long = λ e. absurd (omega arith);
      asked = asked_nothing v w [] (AskedFor Answers) b.asked;
      files = b.files;
    }

-- there was no memory for a print
pub tight_ends : (v w : View) (Answers : Option Files → List Ask → ℕ → List ℕ → Type 0) (text : List ℕ) (status : ℕ) → Breaks v [] text Memory w → ((known : Option Files) → MayBe v known → Answers known [] status text) → Ends v [] Answers 12 w
tight_ends v w Answers text status b is =
    record {
      answer = λ known k no11 no12. absurd (no12 refl);
      cut = λ known k which. inr (record { some = []; status = status; text = text; answers = is known (may_be v w 12 known k); asked = b.asked ∙ asks_none v.asked; part = in_pieces v.printed text w.printed b.part; tight = λ e h. b.memory refl h; pieces = λ e. b.pieces refl });
      failed = λ e. absurd (omega arith);
      grew = λ h. absurd (omega (arith, h, b.same (λ e. cc)));
      long = λ e. absurd (omega arith);
      asked = asked_nothing v w [] (AskedFor Answers) b.asked;
      files = b.files;
    }

-- an answer is one of these too, and more could have been asked
pub ends_as : (v w : View) (wanted more : List Ask) (Some_answers Answers : Option Files → List Ask → ℕ → List ℕ → Type 0) (result : ℕ) → Ends v wanted Some_answers result w → ((known : Option Files) → MayBe v known → (some : List Ask) (status : ℕ) (text : List ℕ) → Some_answers known some status text → Answers known some status text) → ((files : Files) → v.files ≡ Some files → (all : List Ask) (status : ℕ) (text : List ℕ) → Answers (Some files) all status text → BeginsWith all wanted) → Ends v (wanted ++ more) Answers result w
ends_as v w wanted more Some_answers Answers result e map first =
    record {
      answer = λ known k no11 no12. let a = e.answer known k no11 no12 in record { some = a.some; text = a.text; answers = map known (may_be v w result known k) a.some result a.text a.answers; asked = a.asked; printed = a.printed };
      cut = λ known k which. go known (may_be v w result known k) (e.cut known k which);
      failed = e.failed;
      grew = e.grew;
      long = e.long;
      asked = asked_more v w wanted more (AskedFor Answers)
          (asked_within v w wanted (AskedFor Some_answers) (AskedFor Answers) e.asked (λ files told all is. first files told all is.0 is.1 is.2));
      files = e.files;
    }
  where
    go : (known : Option Files) → MayBe v known → (w.printed ≡ v.printed) ⊎ IsCut v known Some_answers result w → (w.printed ≡ v.printed) ⊎ IsCut v known Answers result w
    go known may (inl same) = inl same
    go known may (inr c) = inr (record { some = c.some; status = c.status; text = c.text; answers = map known may c.some c.status c.text c.answers; asked = c.asked; part = c.part; tight = c.tight; pieces = c.pieces })

-- Answers by steps

-- a file is loaded, and the answer goes on with its bytes
pub after_load : (v u w : View) (kind : FileKind) (name bytes : List ℕ) (wanted : List Ask) (Next : Option Files → List ℕ → List Ask → ℕ → List ℕ → Type 0) (result : ℕ) → Loaded v name (most kind) bytes u → Ends u wanted (λ files. Next files bytes) result w → Ends v (Load name ∷ wanted) (λ files. AfterLoad kind name (Next files) files) result w
after_load v u w kind name bytes wanted Next result l e =
    loaded_ends v u w name (most kind) bytes wanted (λ files. AfterLoad kind name (Next files) files) (λ files. Next files bytes) result l e
    (λ known may reads some status text next. loaded bytes some reads refl l.short next)
    (λ files told is all status text a. load_back kind name bytes (Next (Some files)) files all status text l.short is a)

-- a file is not loaded
pub not_loaded : (v w : View) (kind : FileKind) (name : List ℕ) (wanted : List Ask) (Next : Option Files → List ℕ → List Ask → ℕ → List ℕ → Type 0) (result : ℕ) → Unloaded v name (most kind) (too_long_line kind) result w → Ends v (Load name ∷ wanted) (λ files. AfterLoad kind name (Next files) files) result w
not_loaded v w kind name wanted Next result u =
    unloaded_ends v w name (most kind) (too_long_line kind) wanted (λ files. AfterLoad kind name (Next files) files) result u (λ known may bytes reads long. long_file bytes reads refl long (refl, refl))
    (λ files told all status text a. load_first kind name (Next (Some files)) (Some files) all status text a)

-- a file is loaded, and there is no memory to read it
pub no_memory_behind : (v w : View) (kind : FileKind) (name bytes : List ℕ) (wanted : List Ask) (Next : Option Files → List ℕ → List Ask → ℕ → List ℕ → Type 0) → Loaded v name (most kind) bytes w → Ends v (Load name ∷ wanted) (λ files. AfterLoad kind name (Next files) files) 12 w
no_memory_behind v w kind name bytes wanted Next l =
    after_load v w w kind name bytes wanted Next 12 l (memory_ends w w wanted (λ files. Next files bytes) (record { files = refl; printed = refl; asked = refl; faults = refl }))

-- a refused image or script is refused whatever would come next

pub refused_image : (name : List ℕ) (Next : Option Files → ImageState → List Ask → ℕ → List ℕ → Type 0) (files : Option Files) (asked : List Ask) (status : ℕ) (text : List ℕ) → AfterLoad Image name (λ bytes. AfterImage bytes (λ i a s t. ⊥)) files asked status text → AfterLoad Image name (λ bytes. AfterImage bytes (Next files)) files asked status text
refused_image name Next files asked status text (long_file bytes reads e l is) = long_file bytes reads e l is
refused_image name Next files asked status text (loaded bytes rest reads e s (no_image fault has none is)) = loaded bytes rest reads e s (no_image fault has none is)
refused_image name Next files asked status text (loaded bytes rest reads e s (an_image image is next)) = absurd next

pub refused_script : (name : List ℕ) (Next : ScriptState → List Ask → ℕ → List ℕ → Type 0) (files : Option Files) (asked : List Ask) (status : ℕ) (text : List ℕ) → AfterLoad Script name (λ lines. AfterScript lines (λ i a s t. ⊥)) files asked status text → AfterLoad Script name (λ lines. AfterScript lines Next) files asked status text
refused_script name Next files asked status text (long_file bytes reads e l is) = long_file bytes reads e l is
refused_script name Next files asked status text (loaded bytes rest reads e s (no_script fault has none is)) = loaded bytes rest reads e s (no_script fault has none is)
refused_script name Next files asked status text (loaded bytes rest reads e s (a_script script is next)) = absurd next

-- a script is loaded and read, and its run follows
pub after_script : (v u w : View) (name bytes : List ℕ) (script : ScriptState) (Next : ScriptState → List Ask → ℕ → List ℕ → Type 0) (result : ℕ) → Loaded v name 1048576 bytes u → IsText bytes script → Ends u [] (λ files. Next script) result w → Ends v (Load name ∷ []) (AfterLoad Script name (λ lines. AfterScript lines Next)) result w
after_script v u w name bytes script Next result l is e =
    after_load v u w Script name bytes [] (λ files lines. AfterScript lines Next) result l
    (ends_as u w [] [] (λ files. Next script) (λ files. AfterScript bytes Next) result e (λ files told some status text next. a_script script is next) (λ files told all status text a. begins_none all))

-- a script is not read
pub no_script_ends : (v w : View) (name : List ℕ) (Next : ScriptState → List Ask → ℕ → List ℕ → Type 0) (result : ℕ) → Ends v (Load name ∷ []) (AfterLoad Script name (λ lines. AfterScript lines (λ i a s t. ⊥))) result w → Ends v (Load name ∷ []) (AfterLoad Script name (λ lines. AfterScript lines Next)) result w
no_script_ends v w name Next result e =
    ends_as v w (Load name ∷ []) [] (AfterLoad Script name (λ lines. AfterScript lines (λ i a s t. ⊥))) (AfterLoad Script name (λ lines. AfterScript lines Next)) result e
    (λ files told some status text a. refused_script name Next files some status text a)
    (λ files told all status text a. load_first Script name (λ lines. AfterScript lines Next) (Some files) all status text a)

-- an image is loaded and read, and the rest of the command follows
pub after_image : (v u w : View) (name bytes : List ℕ) (image : ImageState) (wanted : List Ask) (Next : Option Files → ImageState → List Ask → ℕ → List ℕ → Type 0) (result : ℕ) → Loaded v name 131072 bytes u → IsImage bytes image → Ends u wanted (λ files. Next files image) result w → Ends v (Load name ∷ wanted) (λ files. AfterLoad Image name (λ b. AfterImage b (Next files)) files) result w
after_image v u w name bytes image wanted Next result l is e =
    loaded_ends v u w name 131072 bytes wanted (λ files. AfterLoad Image name (λ b. AfterImage b (Next files)) files) (λ files. Next files image) result l e
    (λ known may reads some status text next. loaded bytes some reads refl l.short (an_image image is next))
    (λ files told same all status text a. let b = load_back Image name bytes (λ b. AfterImage b (Next (Some files))) files all status text l.short same a in (b.0, b.1, image_back bytes image (Next (Some files)) b.0 status text is b.2))

-- an image is not read
pub no_image_ends : (v w : View) (name : List ℕ) (more : List Ask) (Next : Option Files → ImageState → List Ask → ℕ → List ℕ → Type 0) (result : ℕ) → Ends v (Load name ∷ []) (AfterLoad Image name (λ b. AfterImage b (λ i a s t. ⊥))) result w → Ends v (Load name ∷ more) (λ files. AfterLoad Image name (λ b. AfterImage b (Next files)) files) result w
no_image_ends v w name more Next result e =
    ends_as v w (Load name ∷ []) more (AfterLoad Image name (λ b. AfterImage b (λ i a s t. ⊥))) (λ files. AfterLoad Image name (λ b. AfterImage b (Next files)) files) result e
    (λ files told some status text a. refused_image name Next files some status text a)
    (λ files told all status text a. load_first Image name (λ b. AfterImage b (Next (Some files))) (Some files) all status text a)

pub refused_settings : (name : List ℕ) (Next : Option Files → Numbers → List Ask → ℕ → List ℕ → Type 0) (files : Option Files) (asked : List Ask) (status : ℕ) (text : List ℕ) → AfterLoad Settings name (λ b. AfterReadingSettings b (λ i a s t. ⊥)) files asked status text → AfterLoad Settings name (λ b. AfterReadingSettings b (Next files)) files asked status text
refused_settings name Next files asked status text (long_file bytes reads e l is) = long_file bytes reads e l is
refused_settings name Next files asked status text (loaded bytes rest reads e s (no_settings fault other has none is)) = loaded bytes rest reads e s (no_settings fault other has none is)
refused_settings name Next files asked status text (loaded bytes rest reads e s (some_settings numbers is next)) = absurd next

-- settings are loaded and read, and the rest of the command follows
pub after_settings : (v u w : View) (name bytes : List ℕ) (numbers : Numbers) (wanted : List Ask) (Next : Option Files → Numbers → List Ask → ℕ → List ℕ → Type 0) (result : ℕ) → Loaded v name 4096 bytes u → AnswersSettings bytes (Ok numbers) → Ends u wanted (λ files. Next files numbers) result w → Ends v (Load name ∷ wanted) (λ files. AfterLoad Settings name (λ b. AfterReadingSettings b (Next files)) files) result w
after_settings v u w name bytes numbers wanted Next result l is e =
    loaded_ends v u w name 4096 bytes wanted (λ files. AfterLoad Settings name (λ b. AfterReadingSettings b (Next files)) files) (λ files. Next files numbers) result l e
    (λ known may reads some status text next. loaded bytes some reads refl l.short (some_settings numbers is next))
    (λ files told same all status text a. let b = load_back Settings name bytes (λ b. AfterReadingSettings b (Next (Some files))) files all status text l.short same a in (b.0, b.1, settings_back bytes numbers (Next (Some files)) b.0 status text is b.2))

-- settings are not read
pub no_settings_end : (v w : View) (name : List ℕ) (more : List Ask) (Next : Option Files → Numbers → List Ask → ℕ → List ℕ → Type 0) (result : ℕ) → Ends v (Load name ∷ []) (AfterLoad Settings name (λ b. AfterReadingSettings b (λ i a s t. ⊥))) result w → Ends v (Load name ∷ more) (λ files. AfterLoad Settings name (λ b. AfterReadingSettings b (Next files)) files) result w
no_settings_end v w name more Next result e =
    ends_as v w (Load name ∷ []) more (AfterLoad Settings name (λ b. AfterReadingSettings b (λ i a s t. ⊥))) (λ files. AfterLoad Settings name (λ b. AfterReadingSettings b (Next files)) files) result e
    (λ files told some status text a. refused_settings name Next files some status text a)
    (λ files told all status text a. load_first Settings name (λ b. AfterReadingSettings b (Next (Some files))) (Some files) all status text a)
