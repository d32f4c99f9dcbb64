-- The program that `generate` prints: a ring of members that take turns.
use Rattle.std.specs.Prelude.{ℕ, List, [], ◌∷◌, ◌++◌, codes, decimal}
use Rattle.std.specs.List.{flat_map}

-- the lines behind that of its constants
abbrev pub ring_lines : List (List ℕ)
ring_lines =
    codes "device module console [4];" ∷
    codes "define put;" ∷
    codes "var TPS [177564B]: bits; TPB [177566B]: char;" ∷
    codes "procedure put(c: char);" ∷
    codes "begin" ∷
    codes "  while not TPS[7] do end;" ∷
    codes "  TPB := c" ∷
    codes "end put;" ∷
    codes "end console;" ∷
    codes "interface module gate;" ∷
    codes "define arrive, hold, pass;" ∷
    codes "use last, marshal;" ∷
    codes "var turn: signal; count: integer;" ∷
    codes "procedure arrive(r: integer);" ∷
    codes "begin" ∷
    codes "  count := count + 1;" ∷
    codes "  if count = last then marshal end;" ∷
    codes "  wait(turn, r)" ∷
    codes "end arrive;" ∷
    codes "procedure hold(r: integer);" ∷
    codes "begin wait(turn, r) end hold;" ∷
    codes "procedure pass;" ∷
    codes "begin send(turn) end pass;" ∷
    codes "end gate;" ∷
    codes "process marshal;" ∷
    codes "var k: integer;" ∷
    codes "begin" ∷
    codes "  k := 0;" ∷
    codes "  while k < last * laps do pass; k := k + 1 end" ∷
    codes "end marshal;" ∷
    codes "process member(r: integer);" ∷
    codes "var lap: integer;" ∷
    codes "begin" ∷
    codes "  arrive(r);" ∷
    codes "  put(char(100B + r));" ∷
    codes "  lap := 1;" ∷
    codes "  while lap < laps do" ∷
    codes "    hold(lap * last + r);" ∷
    codes "    put(char(100B + r));" ∷
    codes "    lap := lap + 1" ∷
    codes "  end" ∷
    codes "end member;" ∷
    codes "var r: integer;" ∷
    codes "begin" ∷
    codes "  r := last;" ∷
    codes "  while r > 0 do member(r); r := r - 1 end" ∷
    codes "end ring." ∷ []

-- the text of these lines, each with its end
abbrev pub text_of : List (List ℕ) → List ℕ
text_of lines = flat_map (λ line. line ++ codes "\n") lines

-- the program with so many members, who each come to print a hundred times
abbrev pub ring_text : ℕ → List ℕ
ring_text members = (codes "module ring;\nconst last = " ++ decimal members) ++ (codes "; laps = 100;\n" ++ text_of ring_lines)
