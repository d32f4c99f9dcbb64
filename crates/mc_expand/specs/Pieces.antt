-- The pieces of a program's code in their order: what stands in front of its entries, and the instructions of process code.
use Rattle.std.specs.Prelude.{ℕ, zero, suc, ◌+◌, ◌%◌, ◌==◌, nat_le, Bool, true, false, List, [], ◌∷◌, ◌++◌, length, take, drop, if◌then◌else◌}
use Rattle.std.specs.List.{flat_map}
use Rattle.mc_pcode.specs.declared.instruction.PInstr.{PInstr}
use Rattle.mc_pcode.specs.declared.instruction.PInstr.TheVariants as code
use Rattle.mc_pcode.specs.declared.program.PEntry.{PEntry}
use Rattle.mc_pcode.specs.Code.{ProcessCode}
use Rattle.mc_expand.specs.declared.line.Item.{Item}
use Rattle.mc_expand.specs.declared.line.Line.{Line}
use Rattle.mc_expand.specs.declared.pieces.Piece.{Piece}
use Rattle.mc_expand.specs.declared.pieces.Piece.TheVariants as piece
use Rattle.mc_expand.specs.Lines.{line_items}
use Rattle.mc_expand.specs.Templates.{jump, prologue, template}

-- whether what stands behind an instruction is reached from it
abbrev pub goes_on : PInstr → Bool
goes_on (code.Move x v) = true
goes_on (code.Store x c) = true
goes_on (code.Push v) = true
goes_on (code.Pop v) = true
goes_on (code.Address c v) = true
goes_on (code.LoadAt u v) = true
goes_on (code.StoreAt x v) = true
goes_on (code.CopyAt k) = true
goes_on (code.ReadRegister a mask v) = true
goes_on (code.WriteRegister x a) = true
goes_on (code.BitTest x i) = true
goes_on (code.BitPut c i b) = true
goes_on (code.BitPutAt v i b) = true
goes_on (code.BitPutRegister a i b) = true
goes_on (code.Index low high size i v) = true
goes_on (code.BitIndex v) = true
goes_on (code.Field k v) = true
goes_on (code.Add x v) = true
goes_on (code.Subtract x v) = true
goes_on (code.Multiply x v) = true
goes_on (code.Divide x v) = true
goes_on (code.Modulo x v) = true
goes_on (code.Negate v) = true
goes_on (code.And x v) = true
goes_on (code.Or x v) = true
goes_on (code.Xor x v) = true
goes_on (code.NotBits v) = true
goes_on (code.Not v) = true
goes_on (code.Compare r x v) = true
goes_on (code.ToChar v) = true
goes_on (code.Jump l) = false
goes_on (code.JumpFalse v l) = true
goes_on (code.JumpTrue v l) = true
goes_on (code.CaseTest w v l) = true
goes_on (code.TrapNow n) = false
goes_on (code.Argument x) = true
goes_on (code.Call e) = true
goes_on (code.Return e) = false
goes_on (code.ZeroLocal k) = true
goes_on (code.Result x) = true
goes_on (code.Enter m) = true
goes_on (code.Leave m) = true
goes_on (code.Start q) = true
goes_on code.Wait = true
goes_on code.Send = true
goes_on (code.Awaited v) = true
goes_on code.Doio = true
goes_on code.EndProcess = false

-- how many of the next entries begin at this place, or at one before it
abbrev pub due : ℕ → List PEntry → ℕ
due c [] = 0
due c (e ∷ entries) = if nat_le e.at c then suc (due c entries) else 0

-- The last of the entries that are due stands directly in front of its first instruction where that is the one at this place. Each
-- other one jumps there. An entry whose place was passed comes late: so entries may be in any order.
abbrev pub is_direct : ℕ → PEntry → List PEntry → Bool
is_direct c e [] = e.at == c
is_direct c e (f ∷ entries) = false

abbrev pub fronts : ℕ → ℕ → List PEntry → List Piece
fronts c n [] = []
fronts c n (e ∷ entries) = piece.Enters n e (is_direct c e entries) ∷ fronts c (suc n) entries

-- what goes on to this place passes so many entries
abbrev pub passing : Bool → ℕ → ℕ → List Piece
passing on c zero = []
passing on c (suc k) = if on then piece.Passes (c % 65536) ∷ [] else []

-- from the place c on, where the next entry has the number n
unfoldable pub pieces_from : ℕ → Bool → ℕ → List PEntry → List PInstr → List Piece
pieces_from c on n entries [] = fronts c n entries
pieces_from c on n entries (i ∷ code) =
    passing on c (due c entries)
    ++ fronts c n (take (due c entries) entries)
    ++ piece.Runs i ∷ pieces_from (suc c) (goes_on i) (n + due c entries) (drop (due c entries) entries) code

unfoldable pub pieces_of : ProcessCode → List Piece
pieces_of p = pieces_from 0 false 0 p.entries p.code

-- The words of a piece

abbrev pub entry_lines : ℕ → ProcessCode → ℕ → PEntry → Bool → List Line
entry_lines workspace p n e direct =
    if direct
    then prologue workspace (length p.processes) n e
    else prologue workspace (length p.processes) n e ++ jump e.at ∷ []

abbrev pub piece_lines : ℕ → ProcessCode → Piece → List Line
piece_lines workspace p (piece.Passes c) = jump c ∷ []
piece_lines workspace p (piece.Enters n e direct) = entry_lines workspace p n e direct
piece_lines workspace p (piece.Runs i) = template p i

unfoldable pub piece_items : ℕ → ProcessCode → Piece → List Item
piece_items workspace p x = flat_map line_items (piece_lines workspace p x)

unfoldable pub items_of : ℕ → ProcessCode → List Piece → List Item
items_of workspace p pieces = flat_map (piece_items workspace p) pieces

-- Where they stand, in words from the first one on: each instruction of process code, and each entry

abbrev pub place_at : ℕ → Piece → List ℕ
place_at at (piece.Passes c) = []
place_at at (piece.Enters n e direct) = []
place_at at (piece.Runs i) = at ∷ []

abbrev pub entry_at : ℕ → Piece → List ℕ
entry_at at (piece.Passes c) = []
entry_at at (piece.Enters n e direct) = at ∷ []
entry_at at (piece.Runs i) = []

unfoldable pub places_from : ℕ → ProcessCode → ℕ → List Piece → List ℕ
places_from workspace p at [] = []
places_from workspace p at (x ∷ pieces) = place_at at x ++ places_from workspace p (at + length (piece_items workspace p x)) pieces

unfoldable pub entries_from : ℕ → ProcessCode → ℕ → List Piece → List ℕ
entries_from workspace p at [] = []
entries_from workspace p at (x ∷ pieces) = entry_at at x ++ entries_from workspace p (at + length (piece_items workspace p x)) pieces
