-- The scopes around a place from the innermost out, from the list that has the innermost last.
use Rattle.std.specs.Prelude.{List, [], ◌∷◌, ◌++◌}
use Rattle.mc_prog.specs.Scopes.{Scope as ScopeAround}
use Rattle.mc_resolve.specs.declared.scope.Scope.{Scope}
use Rattle.mc_resolve.specs.Items.{kind_of}

abbrev pub scope_of : Scope → ScopeAround
scope_of s = record { kind = kind_of s.kind; number = s.number }

abbrev pub around : List Scope → List ScopeAround
around [] = []
around (s ∷ scopes) = around scopes ++ (scope_of s ∷ [])
