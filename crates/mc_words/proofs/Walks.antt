-- What `clap` makes of the words is what the definition reads.
use Rattle.std.proofs.Common.{◌≡◌, ◌≢◌, ◌⊎◌, ℕ, suc, Bool, true, false, codes, List, [], ◌∷◌, ◌++◌, length, Option, Some, None, inl, inr, refl, sym, ap, ◌∙◌, subst, arith, length-append}
use Rattle.std.specs.Prelude.{fold, option_and_then, if◌then◌else◌, ◌==◌, ◌&&◌, ◌||◌, is_some}
use Rattle.std.specs.List.{AllByRecursion}
use Rattle.std.specs.Str.{bytes_eq, chars, encode_utf8_all, IsUtf8}
use Rattle.std.specs.Char.{encode_utf8}
use Rattle.std.proofs.lemmas.Str.{encodes-chars}
use Rattle.std.proofs.lemmas.Bool.{false≢true}
use Rattle.std.proofs.lemmas.Bool.Decides.{eqb_tells}
use Rattle.clap.specs.declared.builder.range.ValueRange.{ValueRange}
use Rattle.clap.specs.declared.builder.value_parser.ValueParser.TheVariants as parser
use Rattle.clap.specs.Lexer.{long_of, short_of}
use Rattle.clap.specs.Walk.{Held, Row, Rule, value as to_positional_step, Text, Waiting, idle, option, positional, Walk, subcommand_met, plain_word, is_pending, settled, used, walked, walk, nothing_held, has_row, with_default, finished}
use Rattle.clap.specs.Simple.{Shape, built, entered, matches_of}
use Rattle.clap.specs.Kinds.{Kinds, or_else}
use Rattle.clap.specs.Faults.{fault_of, entered_fault, check_fault, defaults_fault, flags_fault, settle_fault, turn_fault, walk_fault}
use Rattle.mc_words.specs.Options.{Look, Ends, Named, Short, Plain, look_of, look_behind, look_named, Reading, nothing_read, with_positional, with_settings, reads_journal, reads_settings, reads_named, reads_look, reads_value, reads_word, reads_all}
use Rattle.mc_words.specs.Arguments.{journal, settings, word, app}
use Rattle.mc_words.specs.Rows.{values_in, values_in-same, values_in-other}

-- and as they are built
abbrev one_value : ValueRange
one_value = record { start_inclusive = 1; end_inclusive = 1 }

abbrev journal_rule : Rule
journal_rule = record journal { parser = Some parser.String }

abbrev settings_rule : Rule
settings_rule = record settings { parser = Some parser.String; range = Some one_value }

abbrev word_rule : Rule
word_rule = record word { parser = Some parser.String; range = Some one_value; index = Some 1 }

abbrev rules : List Rule
rules = journal_rule ∷ settings_rule ∷ word_rule ∷ []

abbrev shape : Shape
shape = (built app).top

-- How a word looks, in the parser's words

abbrev IsLook : Look → Text → Type 0
IsLook Ends text = text ≡ 45 ∷ 45 ∷ []
IsLook (Named name behind) text = (long_of text ≡ Some (name, behind)) × (bytes_eq text (45 ∷ 45 ∷ []) ≡ false)
IsLook Short text =
    (x : ℕ) × (xs : Text) × (text ≡ 45 ∷ x ∷ xs) × (long_of text ≡ None) × (short_of text ≡ Some (x ∷ xs)) × (bytes_eq text (45 ∷ 45 ∷ []) ≡ false)
IsLook Plain text = (long_of text ≡ None) × (short_of text ≡ None) × (bytes_eq text (45 ∷ 45 ∷ []) ≡ false)

looks : (text : Text) → IsLook (look_of text) text
looks [] = (refl, refl, refl)
looks (b ∷ rest) = first (eqb_tells b 45)
  where
    behind : (c : ℕ) (more : Text) → IsLook (look_behind (c ∷ more)) (45 ∷ c ∷ more)
    behind c more = second (eqb_tells c 45)
      where
        named : (l : Text) → IsLook (look_named l) (45 ∷ 45 ∷ l)
        named [] = refl
        named (x ∷ xs) = (refl, refl)

        second : ((c == 45) ≡ true) × (c ≡ 45) ⊎ ((c == 45) ≡ false) × (c ≢ 45) → IsLook (look_behind (c ∷ more)) (45 ∷ c ∷ more)
        second (inl e) = subst (λ (k : ℕ). IsLook (look_behind (k ∷ more)) (45 ∷ k ∷ more)) (sym e.1) (named more)
        second (inr e) = rw e.0 (c, more, refl, rw e.0 refl, rw e.0 refl, rw e.0 refl)

    after_hyphen : (l : Text) → IsLook (look_behind l) (45 ∷ l)
    after_hyphen [] = (refl, refl, refl)
    after_hyphen (c ∷ more) = behind c more

    first : ((b == 45) ≡ true) × (b ≡ 45) ⊎ ((b == 45) ≡ false) × (b ≢ 45) → IsLook (look_of (b ∷ rest)) (b ∷ rest)
    first (inl e) = subst (λ (k : ℕ). IsLook (look_of (k ∷ rest)) (k ∷ rest)) (sym e.1) (after_hyphen rest)
    first (inr e) = rw e.0 (rw e.0 refl, rw e.0 refl, rw e.0 refl)

-- Where the walk stands

abbrev held : List Row → Option (Text × List Text) → Held
held rows pending = record { rows = rows; pending = pending; skip = 0 }

abbrev at : List Row → Option (Text × List Text) → Waiting → Bool → Walk
at rows pending waiting is_trailing =
    record { held = held rows pending; waiting = waiting; position = 1; is_trailing = is_trailing; stopped = None }

-- the rows have what was read
record Holds (rows : List Row) (r : Reading) : Type 0 where
  journals : length (values_in (codes "journal") rows) ≡ r.journals
  settings : values_in (codes "settings") rows ≡ r.settings
  positionals : values_in (codes "word") rows ≡ r.positionals

-- no option waits for its value
record IsFree (rows : List Row) (pending : Option (Text × List Text)) (waiting : Waiting) (is_trailing : Bool) (r : Reading) : Type 0 where
  wants : r.wants ≡ false
  ended : r.ended ≡ is_trailing
  no_name : (text : Text) → subcommand_met [] waiting text ≡ None
  plainly : (text : Text) (h : Held) → plain_word rules waiting text h ≡ (h, to_positional_step)
  settles : settle_fault rules false (held rows pending) ≡ []
  holds : Holds (settled rules (held rows pending)).rows r

-- `--settings` waits for its value
record IsWanting (rows : List Row) (pending : Option (Text × List Text)) (waiting : Waiting) (is_trailing : Bool) (r : Reading) : Type 0 where
  wants : r.wants ≡ true
  ended : r.ended ≡ false
  no_trail : is_trailing ≡ false
  pending_is : pending ≡ Some (codes "settings", [])
  waits : waiting ≡ option (codes "settings")
  holds : Holds rows r

abbrev Stands : List Row → Option (Text × List Text) → Waiting → Bool → Reading → Type 0
Stands rows pending waiting is_trailing r =
    IsFree rows pending waiting is_trailing r ⊎ IsWanting rows pending waiting is_trailing r

-- one word more: the walk fails where the definition reads nothing, and else goes on with it
abbrev Fails : Walk → Text → Type 0
Fails w text = turn_fault shape [] w text ≢ []

record Goes (w : Walk) (text : Text) (r : Reading) : Type 0 where
  rows : List Row
  pending : Option (Text × List Text)
  waiting : Waiting
  is_trailing : Bool
  passes : turn_fault shape [] w text ≡ []
  walks : walked rules [] w text ≡ at rows pending waiting is_trailing
  stands : Stands rows pending waiting is_trailing r

-- or it goes on to a place where it can't but fail, as the value of `--settings` does not come any more
record IsDoomed (w : Walk) (text : Text) : Type 0 where
  rows : List Row
  passes : turn_fault shape [] w text ≡ []
  walks : walked rules [] w text ≡ at rows (Some (codes "settings", [])) (option (codes "settings")) true

abbrev Steps : Walk → Text → Option Reading → Type 0
Steps w text None = Fails w text ⊎ IsDoomed w text
Steps w text (Some r) = Goes w text r

-- the values of the three arguments differ by their names
with_word : (rows : List Row) (r : Reading) (text : Text) → Holds rows r → Holds (used word_rule (text ∷ []) rows) (with_positional r text)
with_word rows r text h =
    record {
      journals = ap length (values_in-other (codes "word") _ _ _ (codes "journal") refl rows) ∙ h.journals;
      settings = values_in-other (codes "word") _ _ _ (codes "settings") refl rows ∙ h.settings;
      positionals = values_in-same (codes "word") _ _ _ refl rows ∙ ap (λ (l : List Text). l ++ text ∷ []) h.positionals;
    }

-- a word for the positional argument, before or behind `--`
positional_free : (rows : List Row) (pending : Option (Text × List Text)) (waiting : Waiting) (is_trailing : Bool) (r : Reading) (text : Text) → IsFree rows pending waiting is_trailing r → IsFree (settled rules (held rows pending)).rows (Some (codes "word", text ∷ [])) positional is_trailing (with_positional r text)
positional_free rows pending waiting is_trailing r text f =
    record {
      wants = f.wants;
      ended = f.ended;
      no_name = λ text. refl;
      plainly = λ text h. refl;
      settles = refl;
      holds = with_word (settled rules (held rows pending)).rows r text f.holds;
    }

never_both : (b : Bool) → (b && false) ≡ false
never_both true = refl
never_both false = refl

-- Steps where no option waits for its value

free_plain : (rows : List Row) (pending : Option (Text × List Text)) (waiting : Waiting) (r : Reading) (text : Text) → IsLook Plain text → IsFree rows pending waiting false r → Goes (at rows pending waiting false) text (with_positional r text)
unfolding walked
free_plain rows pending waiting r text look f =
    let n = f.no_name text in
    let p = f.plainly text (held rows pending) in
    let b = never_both (is_pending word_rule pending) in
    record {
      rows = (settled rules (held rows pending)).rows;
      pending = Some (codes "word", text ∷ []);
      waiting = positional;
      is_trailing = false;
      passes = rw (n, look.2, look.0, look.1, p, b) f.settles;
      walks = rw (n, look.2, look.0, look.1, p, b) refl;
      stands = inl (positional_free rows pending waiting false r text f);
    }

free_trailing : (rows : List Row) (pending : Option (Text × List Text)) (waiting : Waiting) (r : Reading) (text : Text) → IsFree rows pending waiting true r → Goes (at rows pending waiting true) text (with_positional r text)
unfolding walked
free_trailing rows pending waiting r text f =
    let b = never_both (is_pending word_rule pending) in
    record {
      rows = (settled rules (held rows pending)).rows;
      pending = Some (codes "word", text ∷ []);
      waiting = positional;
      is_trailing = true;
      passes = rw b f.settles;
      walks = rw b refl;
      stands = inl (positional_free rows pending waiting true r text f);
    }

free_ends : (rows : List Row) (pending : Option (Text × List Text)) (waiting : Waiting) (r : Reading) (text : Text) → IsLook Ends text → IsFree rows pending waiting false r → Goes (at rows pending waiting false) text (record r { ended = true })
unfolding walked
free_ends rows pending waiting r text look f =
    let n = f.no_name text in
    let e : bytes_eq text (45 ∷ 45 ∷ []) ≡ true = rw look refl in
    record {
      rows = rows;
      pending = pending;
      waiting = waiting;
      is_trailing = true;
      passes = rw (n, e) refl;
      walks = rw (n, e) refl;
      stands = inl (record {
        wants = f.wants;
        ended = refl;
        no_name = f.no_name;
        plainly = f.plainly;
        settles = f.settles;
        holds = record { journals = f.holds.journals; settings = f.holds.settings; positionals = f.holds.positionals };
      });
    }

with_journal : (rows : List Row) (r : Reading) → Holds rows r → Holds (used journal_rule [] rows) (record r { journals = suc r.journals })
with_journal rows r h =
    let same = values_in-same (codes "journal") _ _ (codes "journal" ∷ []) refl rows in
    let count : length (values_in (codes "journal") rows ++ codes "journal" ∷ []) ≡ suc r.journals = omega (arith, length-append (values_in (codes "journal") rows) (codes "journal" ∷ []), h.journals) in
    record {
      journals = ap length same ∙ count;
      settings = values_in-other (codes "journal") _ _ _ (codes "settings") refl rows ∙ h.settings;
      positionals = values_in-other (codes "journal") _ _ _ (codes "word") refl rows ∙ h.positionals;
    }

with_value : (rows : List Row) (r : Reading) (text : Text) → Holds rows r → Holds (used settings_rule (text ∷ []) rows) (with_settings r text)
with_value rows r text h =
    record {
      journals = ap length (values_in-other (codes "settings") _ _ _ (codes "journal") refl rows) ∙ h.journals;
      settings = values_in-same (codes "settings") _ _ _ refl rows ∙ ap (λ (l : List Text). l ++ text ∷ []) h.settings;
      positionals = values_in-other (codes "settings") _ _ _ (codes "word") refl rows ∙ h.positionals;
    }

module _ (rows : List Row) (pending : Option (Text × List Text)) (waiting : Waiting) (r : Reading) (text name : Text) (f : IsFree rows pending waiting false r) where
  free_journal : (behind : Option Text) → IsLook (Named name behind) text → bytes_eq (codes "journal") name ≡ true → Steps (at rows pending waiting false) text (reads_journal r behind)
  unfolding walked
  free_journal None look j =
      let n = f.no_name text in
      record {
        rows = used journal_rule [] (settled rules (held rows pending)).rows;
        pending = None;
        waiting = idle;
        is_trailing = false;
        passes = rw (n, look.1, look.0, j, f.settles) refl;
        walks = rw (n, look.1, look.0, j) refl;
        stands = inl (record {
          wants = f.wants;
          ended = f.ended;
          no_name = λ _. refl;
          plainly = λ _ _. refl;
          settles = refl;
          holds = with_journal (settled rules (held rows pending)).rows r f.holds;
        });
      }
  free_journal (Some v) look j =
      let n = f.no_name text in inl (rw (n, look.1, look.0, j) (λ e. cc))

  free_settings : (behind : Option Text) → IsLook (Named name behind) text → bytes_eq (codes "journal") name ≡ false → bytes_eq (codes "settings") name ≡ true → Steps (at rows pending waiting false) text (reads_settings r behind)
  unfolding walked
  free_settings None look j s =
      let n = f.no_name text in
      record {
        rows = (settled rules (held rows pending)).rows;
        pending = Some (codes "settings", []);
        waiting = option (codes "settings");
        is_trailing = false;
        passes = rw (n, look.1, look.0, j, s, f.settles) refl;
        walks = rw (n, look.1, look.0, j, s) refl;
        stands = inr (record {
          wants = refl;
          ended = f.ended;
          no_trail = refl;
          pending_is = refl;
          waits = refl;
          holds = record { journals = f.holds.journals; settings = f.holds.settings; positionals = f.holds.positionals };
        });
      }
  free_settings (Some v) look j s =
      let n = f.no_name text in
      record {
        rows = used settings_rule (v ∷ []) (settled rules (held rows pending)).rows;
        pending = None;
        waiting = idle;
        is_trailing = false;
        passes = rw (n, look.1, look.0, j, s, f.settles) refl;
        walks = rw (n, look.1, look.0, j, s) refl;
        stands = inl (record {
          wants = refl;
          ended = f.ended;
          no_name = λ _. refl;
          plainly = λ _ _. refl;
          settles = refl;
          holds = with_value (settled rules (held rows pending)).rows r v f.holds;
        });
      }

  free_named : (behind : Option Text) → IsLook (Named name behind) text → Steps (at rows pending waiting false) text (reads_named r name behind)
  free_named behind look = go (bytes_eq (codes "journal") name) (bytes_eq (codes "settings") name) refl refl
    where
      go : (b d : Bool) → bytes_eq (codes "journal") name ≡ b → bytes_eq (codes "settings") name ≡ d → Steps (at rows pending waiting false) text (reads_named r name behind)
      go true d j s = rw j (free_journal behind look j)
      go false true j s = rw (j, s) (free_settings behind look j s)
      go false false j s = rw (j, s) (inl (rw (f.no_name text, look.1, look.0, j, s) (λ e. cc)))

-- a text with something behind a hyphen has a character there
first_char : (x : ℕ) (xs : Text) → IsUtf8 (45 ∷ x ∷ xs) → (c : ℕ) × (cs : List ℕ) × (chars (x ∷ xs) ≡ c ∷ cs)
unfolding chars encode_utf8
first_char x xs u = go (chars (x ∷ xs)) refl
  where
    go : (k : List ℕ) → chars (x ∷ xs) ≡ k → (c : ℕ) × (cs : List ℕ) × (chars (x ∷ xs) ≡ c ∷ cs)
    go [] e =
        let whole = encodes-chars (45 ∷ x ∷ xs) u in
        let alone : chars (45 ∷ x ∷ xs) ≡ 45 ∷ [] = ap (λ (l : List ℕ). 45 ∷ l) e in
        let short : encode_utf8_all (45 ∷ []) ≡ 45 ∷ x ∷ xs = ap encode_utf8_all (sym alone) ∙ whole in cc
    go (c ∷ cs) e = (c, cs, e)

free_short : (rows : List Row) (pending : Option (Text × List Text)) (waiting : Waiting) (r : Reading) (text : Text) → IsUtf8 text → IsLook Short text → IsFree rows pending waiting false r → Fails (at rows pending waiting false) text
unfolding walked flags_fault
free_short rows pending waiting r text u look f =
    let n = f.no_name text in
    let c = first_char look.0 look.1 (subst IsUtf8 look.2 u) in
    rw (n, look.5, look.3, look.4, c.2) (λ e. cc)

free_steps : (rows : List Row) (pending : Option (Text × List Text)) (waiting : Waiting) (r : Reading) (text : Text) → IsUtf8 text → (look : Look) → IsLook look text → IsFree rows pending waiting false r → Steps (at rows pending waiting false) text (reads_look r text look)
free_steps rows pending waiting r text u Ends is f = free_ends rows pending waiting r text is f
free_steps rows pending waiting r text u (Named name behind) is f = free_named rows pending waiting r text name f behind is
free_steps rows pending waiting r text u Short is f = inl (free_short rows pending waiting r text u is f)
free_steps rows pending waiting r text u Plain is f = free_plain rows pending waiting r text is f

-- Steps where `--settings` waits for its value

abbrev missing : Option (Text × List Text)
missing = Some (codes "settings", [])

abbrev waits_for : Waiting
waits_for = option (codes "settings")

wanting_named : (rows : List Row) (text name : Text) (behind : Option Text) → IsLook (Named name behind) text → Fails (at rows missing waits_for false) text
unfolding walked
wanting_named rows text name behind look = go behind (bytes_eq (codes "journal") name) (bytes_eq (codes "settings") name) look refl refl
  where
    go : (behind : Option Text) (b d : Bool) → IsLook (Named name behind) text → bytes_eq (codes "journal") name ≡ b → bytes_eq (codes "settings") name ≡ d → Fails (at rows missing waits_for false) text
    go None true d look j s = rw (look.1, look.0, j) (λ e. cc)
    go (Some v) true d look j s = rw (look.1, look.0, j) (λ e. cc)
    go None false true look j s = rw (look.1, look.0, j, s) (λ e. cc)
    go (Some v) false true look j s = rw (look.1, look.0, j, s) (λ e. cc)
    go behind false false look j s = rw (look.1, look.0, j, s) (λ e. cc)

wanting_steps : (rows : List Row) (r : Reading) (text : Text) → IsUtf8 text → (look : Look) → IsLook look text → r.ended ≡ false → Holds rows r → Steps (at rows missing waits_for false) text (reads_value r text look)
unfolding walked flags_fault
wanting_steps rows r text u Ends is ended h =
    let e : bytes_eq text (45 ∷ 45 ∷ []) ≡ true = rw is refl in
    inr (record { rows = rows; passes = rw e refl; walks = rw e refl })
wanting_steps rows r text u (Named name behind) is ended h = inl (wanting_named rows text name behind is)
wanting_steps rows r text u Short is ended h =
    let c = first_char is.0 is.1 (subst IsUtf8 is.2 u) in inl (rw (is.5, is.3, is.4, c.2) (λ e. cc))
wanting_steps rows r text u Plain is ended h =
    record {
      rows = rows;
      pending = Some (codes "settings", text ∷ []);
      waiting = idle;
      is_trailing = false;
      passes = rw (is.2, is.0, is.1) refl;
      walks = rw (is.2, is.0, is.1) refl;
      stands = inl (record {
        wants = refl;
        ended = ended;
        no_name = λ _. refl;
        plainly = λ _ _. refl;
        settles = refl;
        holds = with_value rows r text h;
      });
    }

-- All words

abbrev pub AllText : List Text → Type 0
AllText words = AllByRecursion IsUtf8 words

-- the walk from here on, with what is pending at its end
abbrev end_of : Walk → List Text → Held
end_of w words = (fold (walked rules []) w words).held

abbrev fault_from : Walk → List Text → Kinds
fault_from w words = or_else (walk_fault shape [] w words) (settle_fault rules false (end_of w words))

abbrev Matches : Walk → List Text → Option Reading → Type 0
Matches w words None = fault_from w words ≢ []
Matches w words (Some r) = (fault_from w words ≡ []) × Holds (settled rules (end_of w words)).rows r

first_fails : (a b c : Kinds) → a ≢ [] → or_else (or_else a b) c ≢ []
first_fails [] b c h e = h refl
first_fails (k ∷ ks) b c h e = cc

doomed : (rows : List Row) (words : List Text) → fault_from (at rows missing waits_for true) words ≢ []
unfolding walked walk_fault
doomed rows [] e = cc
doomed rows (text ∷ words) e = cc

if_true : {A : Type 0} (b : Bool) (x y : A) → b ≡ true → (if b then x else y) ≡ x
if_true true x y h = refl
if_true false x y h = absurd (false≢true h)

if_false : {A : Type 0} (b : Bool) (x y : A) → b ≡ false → (if b then x else y) ≡ y
if_false true x y h = absurd (false≢true (sym h))
if_false false x y h = refl

one_step : (rows : List Row) (pending : Option (Text × List Text)) (waiting : Waiting) (is_trailing : Bool) (r : Reading) (text : Text) → IsUtf8 text → Stands rows pending waiting is_trailing r → Steps (at rows pending waiting is_trailing) text (reads_word r text)
one_step rows pending waiting true r text u (inl f) =
    subst (Steps (at rows pending waiting true) text) (sym (if_true r.ended _ _ f.ended)) (free_trailing rows pending waiting r text f)
one_step rows pending waiting false r text u (inl f) =
    let is = if_false r.ended (Some (with_positional r text)) _ f.ended ∙ if_false r.wants (reads_value r text (look_of text)) _ f.wants in
    subst (Steps (at rows pending waiting false) text) (sym is) (free_steps rows pending waiting r text u (look_of text) (looks text) f)
one_step rows pending waiting is_trailing r text u (inr w) =
    let P : Option (Text × List Text) → Waiting → Bool → Type 0 = λ p v t. Steps (at rows p v t) text (reads_value r text (look_of text)) in
    let here = wanting_steps rows r text u (look_of text) (looks text) w.ended w.holds in
    let moved = subst (λ p. P p waiting is_trailing) (sym w.pending_is) (subst (λ v. P missing v is_trailing) (sym w.waits) (subst (λ t. P missing waits_for t) (sym w.no_trail) here)) in
    let is = if_false r.ended (Some (with_positional r text)) _ w.ended ∙ if_true r.wants _ (reads_look r text (look_of text)) w.wants in
    subst (Steps (at rows pending waiting is_trailing) text) (sym is) moved

after_step_matches : (w : Walk) (text : Text) (words : List Text) (o : Option Reading) → Steps w text o → ((rows : List Row) (pending : Option (Text × List Text)) (waiting : Waiting) (is_trailing : Bool) (r : Reading) → Stands rows pending waiting is_trailing r → Matches (at rows pending waiting is_trailing) words (reads_all r words)) → Matches w (text ∷ words) (option_and_then (λ s. reads_all s words) o)
unfolding walk_fault
after_step_matches w text words None (inl h) rest = first_fails (turn_fault shape [] w text) _ _ h
after_step_matches w text words None (inr d) rest =
    let here : fault_from (walked rules [] w text) words ≢ [] = subst (λ v. fault_from v words ≢ []) (sym d.walks) (doomed d.rows words) in
    rw d.passes here
after_step_matches w text words (Some r) g rest =
    let next = rest g.rows g.pending g.waiting g.is_trailing r g.stands in
    let here = subst (λ v. Matches v words (reads_all r words)) (sym g.walks) next in
    passed (reads_all r words) here
  where
    passed : (o : Option Reading) → Matches (walked rules [] w text) words o → Matches w (text ∷ words) o
    passed None m = rw g.passes m
    passed (Some s) m = (rw g.passes m.0, m.1)

all_match : (words : List Text) (rows : List Row) (pending : Option (Text × List Text)) (waiting : Waiting) (is_trailing : Bool) (r : Reading) → AllText words → Stands rows pending waiting is_trailing r → Matches (at rows pending waiting is_trailing) words (reads_all r words)
unfolding walk_fault
all_match [] rows pending waiting is_trailing r u (inl f) =
    subst (Matches (at rows pending waiting is_trailing) []) (sym (if_false r.wants None (Some r) f.wants)) (f.settles, f.holds)
all_match [] rows pending waiting is_trailing r u (inr w) =
    let stuck : settle_fault rules false (held rows pending) ≢ [] = rw w.pending_is (λ e. cc) in
    subst (Matches (at rows pending waiting is_trailing) []) (sym (if_true r.wants None (Some r) w.wants)) stuck
all_match (text ∷ words) rows pending waiting is_trailing r u stands =
    after_step_matches (at rows pending waiting is_trailing) text words (reads_word r text) (one_step rows pending waiting is_trailing r text u.0 stands)
    (λ rows' pending' waiting' is_trailing' r' stands'. all_match words rows' pending' waiting' is_trailing' r' u.1 stands')

-- The whole parse

or_true : (b : Bool) → (b || true) ≡ true
or_true true = refl
or_true false = refl

no_fault : (a b c d e : Kinds) → b ≡ [] → d ≡ [] → e ≡ [] → or_else a (or_else b (or_else c (or_else d e))) ≡ or_else a c
no_fault [] b [] d e f g h = rw (f, g) h
no_fault [] b (k ∷ ks) d e f g h = rw f refl
no_fault (k ∷ ks) b c d e f g h = refl

below : (stop : Option (Text × List Text)) → entered_fault (built app) stop ≡ []
below None = refl
below (Some p) = refl

enters_none : (stop : Option (Text × List Text)) → is_some (entered (built app) stop) ≡ false
enters_none None = refl
enters_none (Some p) = refl

no_defaults : (rows : List Row) → defaults_fault rows rules ≡ []
unfolding defaults_fault
no_defaults rows =
    let one = or_true (has_row (codes "journal") rows) in
    let two = or_true (has_row (codes "settings") (with_default rows journal_rule)) in
    let three = or_true (has_row (codes "word") (with_default (with_default rows journal_rule) settings_rule)) in
    rw (one, two, three) refl

same_either : (b : Bool) (rows : List Row) → (if b then rows else rows) ≡ rows
same_either true rows = refl
same_either false rows = refl

no_default_rows : (h : Held) → finished rules h ≡ (settled rules h).rows
no_default_rows h =
    let rows : List Row = (settled rules h).rows in
    let one : List Row = with_default rows journal_rule in
    let two : List Row = with_default one settings_rule in
    same_either (has_row (codes "word") two) two ∙ same_either (has_row (codes "settings") one) one ∙ same_either (has_row (codes "journal") rows) rows

no_check : (rows : List Row) (b : Bool) → b ≡ false → check_fault shape rows b ≡ []
no_check rows true h = absurd (false≢true (sym h))
no_check rows false h = refl

-- the parse fails exactly where nothing can be read, and else its matches have what is read
abbrev pub Parses : List Text → Option Reading → Type 0
Parses words None = fault_of app words ≢ []
Parses words (Some r) =
    (fault_of app words ≡ [])
    × (length (values_in (codes "journal") (matches_of app words)) ≡ r.journals)
    × (values_in (codes "settings") (matches_of app words) ≡ r.settings)
    × (values_in (codes "word") (matches_of app words) ≡ r.positionals)

pub parses : (words : List Text) → AllText words → Parses words (reads_all nothing_read words)
parses words u = go (reads_all nothing_read words) (all_match words [] None idle false nothing_read u (inl opening))
  where
    opening : IsFree [] None idle false nothing_read
    opening =
        record {
          wants = refl;
          ended = refl;
          no_name = λ _. refl;
          plainly = λ _ _. refl;
          settles = refl;
          holds = record { journals = refl; settings = refl; positionals = refl };
        }

    end : Held
    end = end_of (at [] None idle false) words

    stop : Option (Text × List Text)
    stop = (walk rules [] nothing_held words).stopped

    whole : fault_of app words ≡ fault_from (at [] None idle false) words
    whole =
        no_fault (walk_fault shape [] (at [] None idle false) words) (entered_fault (built app) stop) (settle_fault rules false end) (defaults_fault (settled rules end).rows rules) (check_fault shape (finished rules end) (is_some (entered (built app) stop))) (below stop) (no_defaults (settled rules end).rows) (no_check (finished rules end) (is_some (entered (built app) stop)) (enters_none stop))

    found : matches_of app words ≡ (settled rules end).rows
    found = no_default_rows end

    go : (o : Option Reading) → Matches (at [] None idle false) words o → Parses words o
    go None m = λ e. m (sym whole ∙ e)
    go (Some r) m =
        (whole ∙ m.0, ap (λ rows. length (values_in (codes "journal") rows)) found ∙ m.1.journals, ap (values_in (codes "settings")) found ∙ m.1.settings, ap (values_in (codes "word")) found ∙ m.1.positionals)
