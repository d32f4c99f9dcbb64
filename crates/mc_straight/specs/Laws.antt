-- How many tokens a source of the straight-line form has, and which registers its statements name.
use Rattle.std.specs.Prelude.{◌≡◌, ℕ, zero, suc, ◌+◌, ◌*◌, List, [], ◌∷◌, map, length, slice_get, Option, Some, None, refl}
use Rattle.std.proofs.Common.{ap, sym, subst, ◌∙◌, arith}
use Rattle.mc_tree.specs.declared.place.Place.{Place}
use Rattle.mc_tree.specs.declared.token.Kind.TheVariants.{Number, Char, Name}
use Rattle.mc_tree.specs.declared.token.Reserved.TheVariants.{EndWord}
use Rattle.mc_tree.specs.declared.token.Symbol.TheVariants.{Semicolon, Comma, Colon, RightBracket, Becomes, Dot}
use Rattle.mc_tree.specs.declared.tree.After.{After}
use Rattle.mc_tree.specs.declared.tree.Begun.{Begun}
use Rattle.mc_tree.specs.declared.tree.Bracket.{Bracket}
use Rattle.mc_tree.specs.declared.tree.DevicePart.{DevicePart}
use Rattle.mc_tree.specs.declared.tree.DeviceProgram.{DeviceProgram}
use Rattle.mc_tree.specs.declared.tree.Id.{Id}
use Rattle.mc_tree.specs.declared.tree.Tree.{Tree}
use Rattle.mc_tree.specs.declared.tree.Tree.TheVariants as trees
use Rattle.mc_tree.specs.declared.tree.TypeTree.{TypeTree}
use Rattle.mc_tree.specs.declared.tree.Var.{Var}
use Rattle.mc_tree.specs.declared.tree.VarId.{VarId}
use Rattle.mc_tree.specs.declared.expression.Expr.{Expr}
use Rattle.mc_tree.specs.declared.statement.Body.{Body}
use Rattle.mc_tree.specs.declared.statement.Statement.{Statement}
use Rattle.mc_tree.specs.declared.statement.Statement.TheViews.{out-Body, roll-out-Body}
use Rattle.mc_tree.specs.Leaves.{Leaf, begin, mark, word, name, each, maybe, after}
use Rattle.mc_tree.specs.Expressions.{expr, designator}
use Rattle.mc_tree.specs.Statements.{statement, body}
use Rattle.mc_tree.specs.Declarations.{bracket, type_tree, var_id, var_}
use Rattle.mc_tree.specs.Trees.{begun, device, device_one, leaves_of, tokens, tokens_of}
use Rattle.mc_tree.specs.ExpressionLaws.{expr-is, simple-is, term-is, number-is, character-is, designator-is}
use Rattle.mc_tree.specs.StatementLaws.{assignment-is, body-is}
use Rattle.mc_tree.specs.TypeLaws.{named_type-is}
use Rattle.pdp_dev.specs.declared.entry.Port.{Port}
use Rattle.mc_straight.specs.declared.form.Put.{Put}
use Rattle.mc_straight.specs.Alone.{IsAssigned, IsChar, IsCharacter, IsNumber, character_factor, expr_of, named, number_factor, simple_of, term_of}
use Rattle.mc_straight.specs.Form.{Straight, address_of, statements_of, ArePaired, HasAddress, IsPut, IsStraight, IsStraightProgram, IsVariable}

number_writes : (n : ℕ) (place : Place) (d : ℕ) (rest : List Leaf) → expr (expr_of (number_factor n place)) d rest ≡ begin (suc d) (Number n) place rest
unfolding expr_of simple_of term_of number_factor
number_writes n place d rest =
    expr-is (simple_of (number_factor n place)) None d rest ∙ simple-is None (term_of (number_factor n place)) [] d rest ∙ term-is (number_factor n place) [] d rest ∙ number-is n place d rest

character_writes : (b : ℕ) (place : Place) (d : ℕ) (rest : List Leaf) → expr (expr_of (character_factor b place)) d rest ≡ begin (suc d) (Char b) place rest
unfolding expr_of simple_of term_of character_factor
character_writes b place d rest =
    expr-is (simple_of (character_factor b place)) None d rest ∙ simple-is None (term_of (character_factor b place)) [] d rest ∙ term-is (character_factor b place) [] d rest ∙ character-is b place d rest

named_writes : (id : Id) (d : ℕ) (rest : List Leaf) → designator (named id) d rest ≡ begin (suc d) (Name id.text) id.place rest
unfolding named
named_writes id d rest = designator-is id [] d rest

length-number : (e : Expr) (n d : ℕ) (rest : List Leaf) → IsNumber e n → length (expr e d rest) ≡ suc (length rest)
length-number e n d rest h = ap (λ (x : Expr). length (expr x d rest)) h.is ∙ ap length (number_writes n h.place d rest)

length-character : (e : Expr) (n d : ℕ) (rest : List Leaf) → IsCharacter e n → length (expr e d rest) ≡ suc (length rest)
length-character e n d rest h = ap (λ (x : Expr). length (expr x d rest)) h.is ∙ ap length (character_writes n h.place d rest)

length-char : (t : TypeTree) (d : ℕ) (rest : List Leaf) → IsChar t → length (type_tree t d rest) ≡ suc (length rest)
length-char t d rest h = ap (λ (x : TypeTree). length (type_tree x d rest)) h.is ∙ ap length (named_type-is h.id d rest)

length-bracket : (b : Bracket) (n d : ℕ) (rest : List Leaf) → IsNumber b.value n → length (bracket b d rest) ≡ 3 + length rest
length-bracket b n d rest h = omega (arith, length-number b.value n d (mark RightBracket b.closing rest) h)

length-var_id : (v : VarId) (n d : ℕ) (rest : List Leaf) → HasAddress v n → length (var_id v d rest) ≡ 4 + length rest
length-var_id v n d rest h =
    let e : length (var_id v d rest) ≡ suc (length (bracket h.bracket d rest)) = ap (λ (o : Option Bracket). suc (length (maybe bracket o d rest))) h.is in
    omega (arith, e, length-bracket h.bracket n d rest h.number)

-- NAME [ADDRESS]: char;
length-var : (v : Var) (p : Port) (d : ℕ) (rest : List Leaf) → IsVariable v p → length (var_ v d rest) ≡ 7 + length rest
length-var v p d rest h =
    let tail : List Leaf = mark Colon v.colon (type_tree v.of d (mark Semicolon v.semicolon rest)) in
    let e : length (var_ v d rest) ≡ length (var_id v.first d tail) = ap (λ (l : List (After VarId)). length (var_id v.first d (each (after Comma var_id) l d tail))) h.one in
    omega (arith, e, length-var_id v.first (address_of p) d tail h.address, length-char v.of d (mark Semicolon v.semicolon rest) h.of_char)

length-vars : (vars : List Var) (ports : List Port) (d : ℕ) (rest : List Leaf) → ArePaired IsVariable vars ports → length (each var_ vars d rest) ≡ 7 * length ports + length rest
length-vars [] [] d rest h = omega arith
length-vars [] (p ∷ ports) d rest h = absurd h
length-vars (v ∷ vars) [] d rest h = absurd h
length-vars (v ∷ vars) (p ∷ ports) d rest h = omega (arith, length-var v p d (each var_ vars d rest) h.0, length-vars vars ports d rest h.1)

-- NAME := CHARACTER
length-assigned : (s : Statement) (id : Id) (b d : ℕ) (rest : List Leaf) → IsAssigned s id b → length (statement s d rest) ≡ 3 + length rest
length-assigned s id b d rest h =
    let value : List Leaf = expr h.value (suc d) rest in
    let e : length (statement s d rest) ≡ suc (suc (length value)) =
    ap (λ (x : Statement). length (statement x d rest)) h.is ∙ ap length (assignment-is (named id) h.becomes h.value d rest) ∙ ap length (named_writes id d (mark Becomes h.becomes value)) in
    omega (arith, e, length-character h.value b (suc d) rest h.character)

module _ (vars : List Var) (variables : List Port) where
  length-more : (more : List (After Statement)) (puts : List Put) (d : ℕ) (rest : List Leaf) → ArePaired (IsPut vars variables) (map (λ a. a.item) more) puts → length (each (after Semicolon statement) more d rest) ≡ 4 * length puts + length rest
  length-more [] [] d rest h = omega arith
  length-more [] (p ∷ puts) d rest h = absurd h
  length-more (a ∷ more) [] d rest h = absurd h
  length-more (a ∷ more) (p ∷ puts) d rest h =
      omega (arith, length-assigned a.item h.0.name p.byte d (each (after Semicolon statement) more d rest) h.0.assigned, length-more more puts d rest h.1)

  length-statements : (first : Statement) (more : List (After Statement)) (puts : List Put) (d : ℕ) (rest : List Leaf) → ArePaired (IsPut vars variables) (first ∷ map (λ a. a.item) more) puts → length (statement first d (each (after Semicolon statement) more d rest)) + 1 ≡ 4 * length puts + length rest
  length-statements first more [] d rest h = absurd h
  length-statements first more (p ∷ puts) d rest h =
      omega (arith, length-assigned first h.0.name p.byte d (each (after Semicolon statement) more d rest) h.0.assigned, length-more more puts d rest h.1)

  length-body : (b : Body) (puts : List Put) (d : ℕ) (rest : List Leaf) → ArePaired (IsPut vars variables) (statements_of b) puts → length (body b d rest) + 1 ≡ 4 * length puts + length rest
  length-body b puts d rest h =
      let e : length (body b d rest) ≡ length (statement (out-Body b).first d (each (after Semicolon statement) (out-Body b).more d rest)) =
      ap (λ (x : Body). length (body x d rest)) (sym (roll-out-Body b)) ∙ ap length (body-is (out-Body b).first (out-Body b).more d rest) in
      omega (arith, e, length-statements (out-Body b).first (out-Body b).more puts d rest h)

length-tokens : (leaves : List Leaf) → length (tokens leaves) ≡ length leaves
length-tokens [] = refl
length-tokens (leaf ∷ leaves) = ap suc (length-tokens leaves)

module _ (p : DeviceProgram) (form : Straight) (h : IsStraightProgram p form) where
  length-block : (rest : List Leaf) → length (device p.block 0 rest) + 1 ≡ 2 + 7 * length form.variables + (4 * length form.puts + length rest)
  length-block rest =
      let tail : List Leaf = maybe begun p.block.body 0 rest in
      let parts : length (device p.block 0 rest) ≡ suc (length (each var_ (h.first ∷ h.more) 0 tail)) = ap (λ (l : List DevicePart). length (each device_one l 0 tail)) h.declares.is in
      let begins : length tail ≡ suc (length (body h.begun.body 0 rest)) = ap (λ (o : Option Begun). length (maybe begun o 0 rest)) h.has_body in
      omega (arith, parts, begins, length-vars (h.first ∷ h.more) form.variables 0 tail h.variables, length-body (h.first ∷ h.more) form.variables h.begun.body form.puts 0 rest h.puts)

  length-program : length (leaves_of (trees.Device p)) ≡ 11 + 7 * length form.variables + 4 * length form.puts
  length-program =
      let behind : List Leaf = word EndWord p.end (name p.end_name (mark Dot p.dot [])) in
      let block : List Leaf = mark Semicolon p.semicolon (device p.block 0 behind) in
      omega (arith, length-bracket p.bracket form.priority 0 block h.priority.number, length-block behind)

-- Such a source has 7 tokens for each variable, 4 for each statement, and 11 more.
pub length-tokens_of : (tree : Tree) (form : Straight) → IsStraight tree form → length (tokens_of tree) ≡ 11 + 7 * length form.variables + 4 * length form.puts
length-tokens_of tree form s =
    ap (λ (t : Tree). length (tokens_of t)) s.device ∙ length-tokens (leaves_of (trees.Device s.program)) ∙ length-program s.program form s.straight

registers : (vars : List Var) (variables : List Port) (statements : List Statement) (puts : List Put) → ArePaired (IsPut vars variables) statements puts → (k : ℕ) (put : Put) → slice_get puts k ≡ Some put → slice_get variables put.variable ≡ Some put.port
registers vars variables [] [] h k put e = absurd (cc e)
registers vars variables [] (p ∷ puts) h k put e = absurd h
registers vars variables (s ∷ statements) [] h k put e = absurd h
registers vars variables (s ∷ statements) (p ∷ puts) h zero put e =
    let same : p ≡ put = cc e in
    subst (λ (q : Put). slice_get variables q.variable ≡ Some q.port) same h.0.port
registers vars variables (s ∷ statements) (p ∷ puts) h (suc k) put e = registers vars variables statements puts h.1 k put e

-- Each statement assigns to the register of its variable.
pub slice_get-variables : (tree : Tree) (form : Straight) → IsStraight tree form → (k : ℕ) (put : Put) → slice_get form.puts k ≡ Some put → slice_get form.variables put.variable ≡ Some put.port
slice_get-variables tree form s = registers (s.straight.first ∷ s.straight.more) form.variables (statements_of s.straight.begun.body) form.puts s.straight.puts
