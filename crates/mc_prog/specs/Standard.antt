-- The names that every source knows and none declares.
use Rattle.std.specs.Prelude.{ℕ, List, Bool, ◌||◌, bytes_eq, codes}

abbrev pub is_standard : List ℕ → Bool
is_standard name =
    bytes_eq name (codes "integer") || (bytes_eq name (codes "Boolean") || (bytes_eq name (codes "char") || (bytes_eq name (codes "bits")
    || (bytes_eq name (codes "signal") || (bytes_eq name (codes "true") || (bytes_eq name (codes "false") || (bytes_eq name (codes "wait")
    || (bytes_eq name (codes "send") || (bytes_eq name (codes "awaited") || bytes_eq name (codes "doio"))))))))))
