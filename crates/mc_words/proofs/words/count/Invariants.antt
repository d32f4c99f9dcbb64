use Rattle.std.proofs.Common.{◌≡◌, true, min, take}
use Rattle.std.specs.List.{list_all}
use Rattle.mc_words.specs.Commands.{is_digit, number_of}
use Rattle.mc_words.proofs.words.count.Given as goal

abbrev pub invariant-loop-digit : goal.invariant-loop-digit
invariant-loop-digit l =
    record {
      are_digits : list_all is_digit (take l.digit-index l.digit-items) ≡ true;
      value : l.value ≡ min (number_of (take l.digit-index l.digit-items)) 27;
    }
