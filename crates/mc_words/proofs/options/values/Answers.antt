use Rattle.std.proofs.Common.{◌≡◌, ◌∙◌, ℕ, Bool, true, false, List, [], ◌∷◌, map, Option, option_map, Bor, refl, ap}
use Rattle.std.specs.Prelude.{find, unwrap_or}
use Rattle.std.specs.Str.{bytes_eq}
use Rattle.std.proofs.lemmas.Result.{IfOk-weaker}
use Rattle.clap.specs.Facts.{Entry}
use Rattle.clap.specs.Walk.{row_of, all_of}
use Rattle.clap.specs.Matches.{raw_values, found_of}
use Rattle.mc_words.proofs.options.values.Goals as goal

-- the values of an entry are those of its row
rows_found : (id : List ℕ) (entries : List Entry) → option_map raw_values (option_map (λ e. e.1) (find (λ e. bytes_eq e.0.now id) entries)) ≡ all_of id (map row_of entries)
rows_found id [] = refl
rows_found id (e ∷ entries) = go (rows_found id entries) (bytes_eq e.0.now id) refl
  where
    go : option_map raw_values (option_map (λ e. e.1) (find (λ e. bytes_eq e.0.now id) entries)) ≡ all_of id (map row_of entries) → (b : Bool) → bytes_eq e.0.now id ≡ b → option_map raw_values (option_map (λ e. e.1) (find (λ e. bytes_eq e.0.now id) (e ∷ entries))) ≡ all_of id (map row_of (e ∷ entries))
    go rest true h = rw h refl
    go rest false h = rw h rest

pub returns-in-Some : goal.returns-in-Some
returns-in-Some c =
    let found = c.in-Some.ensures ∙ rows_found c.args.id.now (found_of c.args.matches.now).entries.items in
    let values = ap (λ (o : Option (List (List ℕ))). unwrap_or o []) found in
    IfOk-weaker c.from_slice.result _ _ (λ v h. ap (map (λ (s : Bor (List ℕ)). s.now)) h ∙ values) c.from_slice.ensures.items

pub returns-in-None : goal.returns-in-None
returns-in-None c =
    let found = c.in-None.ensures ∙ rows_found c.args.id.now (found_of c.args.matches.now).entries.items in
    ap (map (λ (s : Bor (List ℕ)). s.now)) c.new.ensures.items ∙ ap (λ (o : Option (List (List ℕ))). unwrap_or o []) found
