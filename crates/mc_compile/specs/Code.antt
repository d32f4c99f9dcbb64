-- The words of a straight-line program, and its image.
use Rattle.std.specs.Prelude.{◌≡◌, ℕ, ◌*◌, ◌/◌, ◌%◌, List, [], ◌∷◌, ◌++◌}
use Rattle.std.specs.List.{flat_map}
use Rattle.mc_image.specs.Image.{ImageState}
use Rattle.mc_tree.specs.declared.tree.Tree.{Tree}
use Rattle.mc_straight.specs.declared.form.Put.{Put}
use Rattle.mc_straight.specs.Form.{Straight, IsStraight, address_of}

-- MOV #word, @#address
abbrev pub move_code : ℕ → ℕ → List ℕ
move_code word address = 0o012737 ∷ word ∷ address ∷ []

abbrev pub put_code : Put → List ℕ
put_code put = move_code put.byte (address_of put.port)

-- what follows the statements: the priority is 0 again, no process is left, and the machine waits
abbrev pub end_code : List ℕ
end_code = move_code 0 0o50 ++ 1 ∷ []

abbrev pub leave_code : List ℕ
leave_code = move_code 0 0o177776 ++ end_code

abbrev pub puts_code : List Put → List ℕ
puts_code puts = flat_map put_code puts

-- the priority of the module holds from its first statement to its last
abbrev pub code_of : Straight → List ℕ
code_of form = move_code (form.priority * 32) 0o177776 ++ (puts_code form.puts ++ leave_code)

-- a word as two bytes, the low one first
abbrev pub word_bytes : ℕ → List ℕ
word_bytes w = w % 256 ∷ w / 256 ∷ []

-- the code begins at the address 20000 (octal), and word 50 (octal) says that one process has not ended
abbrev pub image_of : List ℕ → ImageState
image_of words =
    record {
      blocks = record { address = 0o50; bytes = 1 ∷ 0 ∷ [] } ∷ record { address = 0o20000; bytes = flat_map word_bytes words } ∷ [];
      start = 0o20000;
    }

-- the image of the code of a tree of the straight-line form
pub record IsImageOf (tree : Tree) (image : ImageState) : Type 0 where
  pub form : Straight
  pub straight : IsStraight tree form
  pub is : image ≡ image_of (code_of form)
