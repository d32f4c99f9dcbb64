use Rattle.mc_tree.specs.declared.token.Kind.TheVariants.{Reserved as ReservedKind, Name}
use Rattle.mc_scan.proofs.Words.{IsWordFront, word_front_of, word_taken}
use Rattle.mc_scan.proofs.word.word.Goals as goal
use Rattle.mc_scan.proofs.word.word.Goals.{in-Some, in-None+in_ok-from_slice-in-None}

pub returns : goal.returns
returns c =
    let front : IsWordFront c.run_length-length.result c.args.rest.now = word_front_of c.args.rest.now c.run_length-length.result c.requires.some c.requires.letter c.run_length-length.ensures in
    elim c.match-reserved.branch [
      | in-Some w ↦ rw w.kind-is (word_taken (ReservedKind w.in-Some.word) c.run_length-length.result c.args.rest.now c.run_length-length.ensures.within front w.in-Some.ensures)
      | in-None+in_ok-from_slice-in-None w ↦ rw w.kind-is (word_taken (Name w.in_ok-from_slice-in-None.field-0) c.run_length-length.result c.args.rest.now c.run_length-length.ensures.within front (front.word, w.in-None.ensures, w.in_ok-from_slice-in-None.ensures))
    ]
