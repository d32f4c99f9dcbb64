-- Commands that may save a file.
use Rattle.std.proofs.Common.{◌≡◌, ◌≢◌, ◌≤◌, ◌<◌, ◌-◌, ◌^◌, ◌⊎◌, ℕ, List, [], ◌∷◌, ◌++◌, length, Option, Some, None, Ok, refl, sym, ap, ◌∙◌, subst, arith, inl, inr}
use Rattle.std.specs.Prelude.{codes, decimal}
use Rattle.std.proofs.lemmas.Bool.Decides.{eqb_tells}
use Rattle.mc_shelf.specs.declared.ask.Ask.{Ask}
use Rattle.mc_shelf.specs.declared.ask.Ask.TheVariants.{Load, Save}
use Rattle.mc_shelf.specs.Outside.{Files, content, Rose, placed, appended, asks, View}
use Rattle.mc_words.specs.Settings.{Numbers, AnswersSettings}
use Rattle.mc_driver.specs.declared.files.FileKind.{FileKind}
use Rattle.mc_driver.specs.declared.files.FileKind.TheVariants.{Settings}
use Rattle.mc_driver.specs.Outside.{Reads, MayBe, IsKnown, IsPieces, BeginsWith, AsksPart, AskedFor, AskedForSaving, Loaded, Says, IsSame, KeepsOthers, IsCut, IsCutOff, Ends, EndsSaving, IsSavedTo}
use Rattle.mc_driver.specs.Stages.{most, AfterLoad, loaded, AfterReadingSettings, some_settings, IsSaved, SavesNothing, SavesWhenDone}
use Rattle.mc_driver.proofs.Asking.{one_more, asked_nothing, asked_first, asked_then, asked_within, asked_more, load_back, settings_back}
use Rattle.mc_driver.proofs.Endings.{parts_from, pieces_from}
use Rattle.mc_driver.proofs.Known.{may_be, as_known, known_there}
use Rattle.mc_driver.proofs.Streams.{appended-none, pieces_none, in_pieces}

keeps_all : (target : Option (List ℕ)) (before after : Option Files) → after ≡ before → KeepsOthers target before after
keeps_all None before after e = e
keeps_all (Some name) before after e = inl e

keeps_from : (target : Option (List ℕ)) (before between after : Option Files) → between ≡ before → KeepsOthers target between after → KeepsOthers target before after
keeps_from target before between after e k = subst (λ (b : Option Files). KeepsOthers target b after) e k

-- a command that saves nothing, where so much was asked
saves_asked : (v w : View) (wanted all_wanted : List Ask) (target : Option (List ℕ)) (Some_answers : Option Files → List Ask → ℕ → List ℕ → Type 0) (Answers : Option Files → Option Files → Option Files → List Ask → ℕ → List ℕ → Type 0) (result : ℕ) → Ends v wanted Some_answers result w → ((known : Option Files) → MayBe v known → (some : List Ask) (status : ℕ) (text : List ℕ) → Some_answers known some status text → Answers known v.files v.files some status text) → AsksPart v all_wanted (AskedForSaving Answers) w → EndsSaving v all_wanted target Answers result w
saves_asked v w wanted all_wanted target Some_answers Answers result e map asked =
    record {
      answer = λ known k no11 no12.
          let a = e.answer known k no11 no12 in
          record {
            some = a.some;
            text = a.text;
            answers = subst (λ (f : Option Files). Answers known v.files f a.some result a.text) (sym e.files) (map known (may_be v w result known k) a.some result a.text a.answers);
            asked = a.asked;
            printed = a.printed;
          };
      cut = λ known k which. go known (may_be v w result known k) (e.cut known k which);
      failed = e.failed;
      grew = e.grew;
      long = e.long;
      asked = asked;
      files = keeps_all target v.files w.files e.files;
    }
  where
    go : (known : Option Files) → MayBe v known → (w.printed ≡ v.printed) ⊎ IsCut v known Some_answers result w → ((w.printed ≡ v.printed) × (w.files ≡ v.files)) ⊎ IsCutOff v known target Answers result w
    go known may (inl same) = inl (same, e.files)
    go known may (inr c) =
        inr (record {
          after = v.files;
          some = c.some;
          status = c.status;
          text = c.text;
          answers = map known may c.some c.status c.text c.answers;
          asked = c.asked;
          part = c.part;
          files = inl e.files;
          tight = c.tight;
          pieces = c.pieces;
        })

-- a command that saves nothing; more could have been asked
pub saves_none : (v w : View) (wanted more : List Ask) (target : Option (List ℕ)) (Some_answers : Option Files → List Ask → ℕ → List ℕ → Type 0) (Answers : Option Files → Option Files → Option Files → List Ask → ℕ → List ℕ → Type 0) (result : ℕ) → Ends v wanted Some_answers result w → ((known : Option Files) → MayBe v known → (some : List Ask) (status : ℕ) (text : List ℕ) → Some_answers known some status text → Answers known v.files v.files some status text) → ((files : Files) → v.files ≡ Some files → (after : Option Files) (all : List Ask) (status : ℕ) (text : List ℕ) → Answers (Some files) (Some files) after all status text → BeginsWith all wanted) → EndsSaving v (wanted ++ more) target Answers result w
saves_none v w wanted more target Some_answers Answers result e map first =
    saves_asked v w wanted (wanted ++ more) target Some_answers Answers result e map
    (asked_more v w wanted more (AskedForSaving Answers)
    (asked_within v w wanted (AskedFor Some_answers) (AskedForSaving Answers) e.asked (λ files told all is. first files told is.0 all is.1 is.2 is.3)))

-- its answers are among those of all commands
pub plain_ends : (v w : View) (wanted : List Ask) (Answers : Option Files → List Ask → ℕ → List ℕ → Type 0) (result : ℕ) → Ends v wanted Answers result w → EndsSaving v wanted None (SavesNothing Answers) result w
plain_ends v w wanted Answers result e =
    saves_asked v w wanted wanted None Answers (SavesNothing Answers) result e (λ files told some status text a. record { kept = refl; answers = a })
    (record {
      some = e.asked.some;
      asked = e.asked.asked;
      in_order = e.asked.in_order;
      none_behind = λ files told all is. e.asked.none_behind files told all (is.1, is.2, is.3.answers);
    })

-- an answer is one of these too
pub saving_as : (v w : View) (wanted : List Ask) (target : Option (List ℕ)) (Some_answers Answers : Option Files → Option Files → Option Files → List Ask → ℕ → List ℕ → Type 0) (result : ℕ) → EndsSaving v wanted target Some_answers result w → ((known : Option Files) → MayBe v known → (after : Option Files) (some : List Ask) (status : ℕ) (text : List ℕ) → Some_answers known v.files after some status text → Answers known v.files after some status text) → ((files : Files) → v.files ≡ Some files → (after : Option Files) (all : List Ask) (status : ℕ) (text : List ℕ) → Answers (Some files) (Some files) after all status text → BeginsWith all wanted) → EndsSaving v wanted target Answers result w
saving_as v w wanted target Some_answers Answers result e map first =
    record {
      answer = λ known k no11 no12.
          let a = e.answer known k no11 no12 in
          record { some = a.some; text = a.text; answers = map known (may_be v w result known k) w.files a.some result a.text a.answers; asked = a.asked; printed = a.printed };
      cut = λ known k which. go known (may_be v w result known k) (e.cut known k which);
      failed = e.failed;
      grew = e.grew;
      long = e.long;
      asked = asked_within v w wanted (AskedForSaving Some_answers) (AskedForSaving Answers) e.asked (λ files told all is. first files told is.0 all is.1 is.2 is.3);
      files = e.files;
    }
  where
    go : (known : Option Files) → MayBe v known → ((w.printed ≡ v.printed) × (w.files ≡ v.files)) ⊎ IsCutOff v known target Some_answers result w → ((w.printed ≡ v.printed) × (w.files ≡ v.files)) ⊎ IsCutOff v known target Answers result w
    go known may (inl same) = inl same
    go known may (inr c) = inr (record { after = c.after; some = c.some; status = c.status; text = c.text; answers = map known may c.after c.some c.status c.text c.answers; asked = c.asked; part = c.part; files = c.files; tight = c.tight; pieces = c.pieces })

-- a file is loaded, and then the rest of the command follows
pub loaded_saving : (v u w : View) (name : List ℕ) (most : ℕ) (bytes : List ℕ) (wanted : List Ask) (target : Option (List ℕ)) (Answers Left : Option Files → Option Files → Option Files → List Ask → ℕ → List ℕ → Type 0) (result : ℕ) → Loaded v name most bytes u → EndsSaving u wanted target Left result w → ((known : Option Files) → MayBe v known → Reads known name bytes → (before after : Option Files) (some : List Ask) (status : ℕ) (text : List ℕ) → Left known before after some status text → Answers known before after (Load name ∷ some) status text) → ((files : Files) → v.files ≡ Some files → bytes ≡ content files name → (after : Option Files) (all : List Ask) (status : ℕ) (text : List ℕ) → Answers (Some files) (Some files) after all status text → (rest : List Ask) × (all ≡ Load name ∷ rest) × Left (Some files) (Some files) after rest status text) → EndsSaving v (Load name ∷ wanted) target Answers result w
loaded_saving v u w name most bytes wanted target Answers Left result l e map back =
    record {
      answer = λ known k no11 no12.
          let may = may_be v w result known k in
          let a = e.answer known (known_there v u w result known l.files l.faults k) no11 no12 in
          record {
            some = Load name ∷ a.some;
            text = a.text;
            answers = map known may (as_known v known (λ files. bytes ≡ content files name) may l.told) v.files w.files a.some result a.text (subst (λ (f : Option Files). Left known f w.files a.some result a.text) l.files a.answers);
            asked = one_more v.asked u.asked w.asked (Load name) a.some l.asked a.asked;
            printed = a.printed ∙ ap (λ (o : Option (List ℕ)). appended o a.text) l.printed;
          };
      cut = λ known k which. go known (may_be v w result known k) (e.cut known (known_there v u w result known l.files l.faults k) which);
      failed = λ f. subst (λ (n : ℕ). Rose n w.faults) l.faults (e.failed f);
      grew = λ h. e.grew (subst (λ (n : ℕ). n < w.faults) (sym l.faults) h);
      long = λ f. subst (λ (n : ℕ). Rose n w.longs) l.longs (e.long f);
      asked = asked_then v u w (Load name) wanted (AskedForSaving Answers) (AskedForSaving Left) l.asked l.files e.asked
          (λ files told all is. let b = back files told (l.told files told) is.0 all is.1 is.2 is.3 in (b.0, b.1, (is.0, is.1, is.2, b.2)));
      files = keeps_from target v.files u.files w.files l.files e.files;
    }
  where
    go : (known : Option Files) → MayBe v known → ((w.printed ≡ u.printed) × (w.files ≡ u.files)) ⊎ IsCutOff u known target Left result w → ((w.printed ≡ v.printed) × (w.files ≡ v.files)) ⊎ IsCutOff v known target Answers result w
    go known may (inl same) = inl (same.0 ∙ l.printed, same.1 ∙ l.files)
    go known may (inr c) =
        inr (record {
          after = c.after;
          some = Load name ∷ c.some;
          status = c.status;
          text = c.text;
          answers = map known may (as_known v known (λ files. bytes ≡ content files name) may l.told) v.files c.after c.some c.status c.text (subst (λ (f : Option Files). Left known f c.after c.some c.status c.text) l.files c.answers);
          asked = one_more v.asked u.asked w.asked (Load name) c.some l.asked c.asked;
          part = parts_from v.printed u.printed w.printed c.text l.printed c.part;
          files = there c.files;
          tight = λ f h. c.tight f (l.room (length c.text) h);
          pieces = λ f. pieces_from v.printed u.printed w.printed c.text l.printed (c.pieces f);
        })
      where
        there : (w.files ≡ c.after) ⊎ ((c.status ≡ 0) × (w.printed ≡ u.printed) × KeepsOthers target u.files w.files) → (w.files ≡ c.after) ⊎ ((c.status ≡ 0) × (w.printed ≡ v.printed) × KeepsOthers target v.files w.files)
        there (inl is) = inl is
        there (inr (done, same, others)) = inr (done, same ∙ l.printed, keeps_from target v.files u.files w.files l.files others)

-- a file is loaded, and the answer goes on with its bytes
pub after_load_saving : (v u w : View) (kind : FileKind) (name bytes : List ℕ) (wanted : List Ask) (target : Option (List ℕ)) (Next : List ℕ → Option Files → Option Files → List Ask → ℕ → List ℕ → Type 0) (result : ℕ) → Loaded v name (most kind) bytes u → EndsSaving u wanted target (SavesWhenDone (λ known. Next bytes)) result w → EndsSaving v (Load name ∷ wanted) target (SavesWhenDone (λ known before after. AfterLoad kind name (λ b. Next b before after) known)) result w
after_load_saving v u w kind name bytes wanted target Next result l e =
    loaded_saving v u w name (most kind) bytes wanted target (SavesWhenDone (λ known before after. AfterLoad kind name (λ b. Next b before after) known)) (SavesWhenDone (λ known. Next bytes)) result l e
    (λ known may reads before after some status text next. record { kept = next.kept; answers = loaded bytes some reads refl l.short next.answers })
    (λ files told is after all status text a.
    let o : Option Files = Some files in
    let b = load_back kind name bytes (λ b. Next b o after) files all status text l.short is a.answers in (b.0, b.1, record { kept = a.kept; answers = b.2 }))

-- settings are loaded and read, and the answer goes on with them
pub after_settings_saving : (v u w : View) (name bytes : List ℕ) (numbers : Numbers) (wanted : List Ask) (target : Option (List ℕ)) (Next : Numbers → Option Files → Option Files → Option Files → List Ask → ℕ → List ℕ → Type 0) (result : ℕ) → Loaded v name 4096 bytes u → AnswersSettings bytes (Ok numbers) → EndsSaving u wanted target (SavesWhenDone (Next numbers)) result w → EndsSaving v (Load name ∷ wanted) target (SavesWhenDone (λ known before after. AfterLoad Settings name (λ b. AfterReadingSettings b (λ n. Next n known before after)) known)) result w
after_settings_saving v u w name bytes numbers wanted target Next result l is e =
    loaded_saving v u w name 4096 bytes wanted target (SavesWhenDone (λ known before after. AfterLoad Settings name (λ b. AfterReadingSettings b (λ n. Next n known before after)) known)) (SavesWhenDone (Next numbers)) result l e
    (λ known may reads before after some status text next. record { kept = next.kept; answers = loaded bytes some reads refl l.short (some_settings numbers is next.answers) })
    (λ files told same after all status text a.
    let o : Option Files = Some files in
    let b = load_back Settings name bytes (λ b. AfterReadingSettings b (λ n. Next n o o after)) files all status text l.short same a.answers in (b.0, b.1, record { kept = a.kept; answers = settings_back bytes numbers (λ n. Next n o o after) b.0 status text is b.2 }))

-- there is no memory
pub memory_saving : (v w : View) (wanted : List Ask) (target : Option (List ℕ)) (Answers : Option Files → Option Files → Option Files → List Ask → ℕ → List ℕ → Type 0) → IsSame v w → EndsSaving v wanted target Answers 12 w
memory_saving v w wanted target Answers s =
    record {
      answer = λ known k no11 no12. absurd (no12 refl);
      cut = λ known k which. inl (s.printed, s.files);
      failed = λ e. absurd (omega arith);
      grew = λ h. absurd (omega (arith, h, s.faults));
      long = λ e. absurd (omega arith);
      asked = asked_nothing v w wanted (AskedForSaving Answers) s.asked;
      files = keeps_all target v.files w.files s.files;
    }

-- Saves

abbrev pub said_of : List ℕ → List ℕ
said_of bytes = codes "image " ++ decimal (length bytes) ++ codes "\n"

part_none : (printed now : Option (List ℕ)) (bytes : List ℕ) → now ≡ printed → IsPieces printed bytes now
part_none printed now bytes e = in_pieces printed bytes now (record { front = []; rest = bytes; parts = refl; appends = e ∙ appended-none printed })

-- the save is asked, with which each answer begins
asked_save : (v w : View) (name bytes : List ℕ) → w.asked ≡ asks v.asked (Save name) → AsksPart v (Save name ∷ []) (AskedForSaving (λ known. IsSaved name bytes)) w
asked_save v w name bytes e = asked_first v w (Save name) [] (AskedForSaving (λ known. IsSaved name bytes)) e (λ files told all is. record { rest = []; parts = is.3.one_ask })

-- the bytes were saved, and then their number was said, or could not be
pub saved_ends : (v u w : View) (name bytes : List ℕ) (result : ℕ) → IsSavedTo v name bytes u → Says u (said_of bytes) 0 result w → EndsSaving v (Save name ∷ []) (Some name) (λ known. IsSaved name bytes) result w
saved_ends v u w name bytes result p s =
    record {
      answer = λ known k no11 no12.
          let said = s.said no11 no12 in
          record {
            some = Save name ∷ [];
            text = said_of bytes;
            answers = record { one_ask = refl; saved = s.files ∙ p.files; said = (said.0, refl) };
            asked = s.asked ∙ p.asked;
            printed = said.1 ∙ ap (λ (o : Option (List ℕ)). appended o (said_of bytes)) p.printed;
          };
      cut = λ known k which. inr (record {
        after = w.files;
        some = Save name ∷ [];
        status = 0;
        text = said_of bytes;
        answers = record { one_ask = refl; saved = s.files ∙ p.files; said = (refl, refl) };
        asked = s.asked ∙ p.asked;
        part = part which;
        files = inl refl;
        tight = λ e h. s.tight e (p.room (length (said_of bytes)) h);
        pieces = λ e. pieces_none v.printed w.printed (said_of bytes) (s.memory e ∙ p.printed);
      });
      failed = λ e. subst (λ (n : ℕ). Rose n w.faults) p.faults (s.failed e).0;
      grew = λ h. elim (eqb_tells result 11) [ inl e ↦ e.1 | inr e ↦ absurd (omega (arith, h, s.same e.1, p.faults)) ];
      long = λ e. let no11 : result ≢ 11 = λ f. omega arith in let no12 : result ≢ 12 = λ f. omega arith in absurd (omega (arith, e, (s.said no11 no12).0));
      asked = asked_save v w name bytes (s.asked ∙ p.asked);
      files = inr (Some bytes, s.files ∙ p.files);
    }
  where
    part : (result ≡ 11) ⊎ (result ≡ 12) → IsPieces v.printed (said_of bytes) w.printed
    part (inl e) = parts_from v.printed u.printed w.printed (said_of bytes) p.printed (in_pieces u.printed (said_of bytes) w.printed (s.failed e).1)
    part (inr e) = part_none v.printed w.printed (said_of bytes) (s.memory e ∙ p.printed)

-- the save failed
pub unsaved_ends : (v w : View) (name bytes : List ℕ) (held : Option (List ℕ)) → w.files ≡ placed v.files name held → w.printed ≡ v.printed → w.asked ≡ asks v.asked (Save name) → Rose v.faults w.faults → EndsSaving v (Save name ∷ []) (Some name) (λ known. IsSaved name bytes) 11 w
unsaved_ends v w name bytes held put printed asked rose =
    record {
      answer = λ known k no11 no12. absurd (no11 refl);
      cut = λ known k which. inr (record {
        after = placed v.files name (Some bytes);
        some = Save name ∷ [];
        status = 0;
        text = said_of bytes;
        answers = record { one_ask = refl; saved = refl; said = (refl, refl) };
        asked = asked;
        part = part_none v.printed w.printed (said_of bytes) printed;
        files = inr (refl, printed, inr (held, put));
        tight = λ e. absurd (omega arith);
        pieces = λ e. absurd (omega arith);
      });
      failed = λ e. rose;
      grew = λ h. refl;
      long = λ e. absurd (omega arith);
      asked = asked_save v w name bytes asked;
      files = inr (held, put);
    }
