-- Which lists of tokens are programs and which begin one, and the first fault of the grammar in a list of tokens.
use Rattle.std.specs.Prelude.{◌≡◌, ◌≤◌, ℕ, zero, suc, List, [], ◌∷◌, ◌++◌, length, ◌⊎◌}
use Rattle.mc_tree.specs.declared.place.Place.{Place}
use Rattle.mc_tree.specs.declared.token.Token.{Token}
use Rattle.mc_tree.specs.declared.tree.Tree.{Tree}
use Rattle.mc_tree.specs.Leaves.{Leaf}
use Rattle.mc_tree.specs.Trees.{tokens_of, leaves_of, depth_of}

-- The tokens of some tree, of any depth.
abbrev pub IsProgram : List Token → Type 0
IsProgram tokens = (tree : Tree) × (tokens_of tree ≡ tokens)

-- The tokens of some tree, of any depth, begin with these.
abbrev pub BeginsProgram : List Token → Type 0
BeginsProgram tokens = (tree : Tree) × (more : List Token) × (tokens_of tree ≡ tokens ++ more)

-- the depth of the node that begins with the token in place k, counted from 0; 0 where none does
abbrev pub depth_at : ℕ → List Leaf → ℕ
depth_at k [] = 0
depth_at zero (leaf ∷ leaves) = leaf.depth
depth_at (suc k) (leaf ∷ leaves) = depth_at k leaves

-- Behind these tokens the token begins a node of this depth: it does so in every tree whose tokens begin with them and it.
abbrev pub BeginsDepth : ℕ → List Token → Token → Type 0
BeginsDepth depth front token = (tree : Tree) (more : List Token) → tokens_of tree ≡ front ++ token ∷ more → depth_at (length front) (leaves_of tree) ≡ depth

-- The token at this place is the first that begins a node of depth 65, and the tokens up to it begin a program.
pub record IsTooDeepAt (place : Place) (tokens : List Token) : Type 0 where
  pub front : List Token
  pub token : Token
  pub rest : List Token
  pub parts : tokens ≡ front ++ token ∷ rest
  pub stands : token.place ≡ place
  pub begins : BeginsProgram (front ++ token ∷ [])
  pub deep : BeginsDepth 65 front token
  pub first : (ahead : List Token) (t : Token) (behind : List Token) → front ≡ ahead ++ t ∷ behind → BeginsDepth 65 ahead t → ⊥

-- The token at this place is the first such that the tokens up to it, itself included, begin no program.
pub record IsUnexpectedAt (place : Place) (tokens : List Token) : Type 0 where
  pub front : List Token
  pub token : Token
  pub rest : List Token
  pub parts : tokens ≡ front ++ token ∷ rest
  pub stands : token.place ≡ place
  pub begins : BeginsProgram front
  pub wrong : BeginsProgram (front ++ token ∷ []) → ⊥

-- All tokens begin a program and are none.
pub record IsCut (tokens : List Token) : Type 0 where
  pub begins : BeginsProgram tokens
  pub wrong : IsProgram tokens → ⊥

-- No token is the first that begins a node of depth 65.
abbrev pub IsNowhereTooDeep : List Token → Type 0
IsNowhereTooDeep tokens = (place : Place) → IsTooDeepAt place tokens → ⊥

-- The token at this place is unexpected, or the tokens end too early, whose end has this place; and none is too deep.
abbrev pub IsWrongAt : Place → Place → List Token → Type 0
IsWrongAt end place tokens = (IsUnexpectedAt place tokens ⊎ ((place ≡ end) × IsCut tokens)) × IsNowhereTooDeep tokens

-- The tokens are those of the tree, whose nodes are at most 64 deep.
pub record IsTreeOf (tree : Tree) (tokens : List Token) : Type 0 where
  pub tokens_are : tokens_of tree ≡ tokens
  pub depth : depth_of tree ≤ 64
