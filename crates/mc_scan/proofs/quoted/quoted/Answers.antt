use Rattle.std.proofs.Common.{◌≡◌, ◌-◌, ◌+◌, ◌<◌, List, ℕ, length, take, drop, get_or, refl, arith}
use Rattle.std.proofs.lemmas.List.{take_rest}
use Rattle.mc_scan.proofs.Quotes.{IsTextFront, text_front_of, open_text_of}
use Rattle.mc_scan.proofs.quoted.quoted.Goals as goal
use Rattle.mc_scan.proofs.quoted.quoted.Goals.{then-inside-behind-via-then-inside-behind, then-inside-behind-via-else-inside-behind+then-behind-inside}

pub returns-then-inside-behind-clause-refused : goal.returns-then-inside-behind-clause-refused
returns-then-inside-behind-clause-refused c =
    let behind : List ℕ = take (length c.args.rest.now - 1) (drop 1 c.args.rest.now) in
    let no_quote : c.run_length-inside.result < length behind → get_or behind c.run_length-inside.result 0 ≡ get_or c.args.rest.now 0 0 → ⊥ =
    elim c.then-inside-behind.branch [
      | then-inside-behind-via-then-inside-behind w ↦ λ l e. omega arith
      | then-inside-behind-via-else-inside-behind+then-behind-inside w ↦ λ l e. w.if-behind-inside.true e
    ] in
    (refl, open_text_of c.args.rest.now behind c.run_length-inside.result (take_rest c.args.rest.now 1) c.requires.some c.requires.quote c.run_length-inside.ensures no_quote)

pub returns-clause-ok : goal.returns-clause-ok
returns-clause-ok c =
    let front : IsTextFront c.run_length-inside.result (take (length c.args.rest.now - 1) (drop 1 c.args.rest.now)) c.args.rest.now =
    text_front_of c.args.rest.now (take (length c.args.rest.now - 1) (drop 1 c.args.rest.now)) c.run_length-inside.result (take_rest c.args.rest.now 1) c.requires.some c.requires.quote c.run_length-inside.ensures c.if-inside-behind.false c.if-behind-inside.false in
    record {
      within = front.within;
      some = omega arith;
      spelled = c.in_ok-kind_of.ensures (take (c.run_length-inside.result + 2) c.args.rest.now) front.quoted;
      longest = front.longest;
      in_range = front.in_range;
    }
