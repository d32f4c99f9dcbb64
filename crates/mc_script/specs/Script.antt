-- What a script says, and in which ranges.
use Rattle.std.specs.Prelude.{ℕ, ◌<◌, ◌≤◌, List, [], ◌∷◌, map, Option, Some, None}
use Rattle.mc_script.specs.declared.script.Key.{Key}

pub record ScriptState : Type 0 where
  -- the keys that are struck, with their times
  pub keys : List Key
  -- the bytes on the paper tape in the reader
  pub tape : List ℕ
  -- how long an operation of each device takes
  pub printer : ℕ
  pub reader : ℕ
  pub punch : ℕ
  -- the clock's period, where there is a clock
  pub clock : Option ℕ
  -- when the machine is stopped
  pub limit : ℕ

-- from 1 to a greatest number
abbrev pub IsWithin : ℕ → ℕ → Type 0
IsWithin most n = (1 ≤ n) × (n ≤ most)

-- each key comes after a time, and after the key before it
abbrev pub AreAfter : ℕ → List Key → Type 0
AreAfter time [] = Unit {0}
AreAfter time (k ∷ keys) = (time < k.at) × (k.at ≤ 20000000) × AreAfter k.at keys

abbrev pub IsPeriod : Option ℕ → Type 0
IsPeriod None = Unit {0}
IsPeriod (Some n) = IsWithin 20000000 n

-- each number is a byte
abbrev pub AreBytes : List ℕ → Type 0
AreBytes [] = Unit {0}
AreBytes (b ∷ bytes) = (b ≤ 255) × AreBytes bytes

abbrev pub bytes_of : List Key → List ℕ
bytes_of keys = map (λ k. k.byte) keys

pub record IsScript (s : ScriptState) : Type 0 where
  pub keys : AreAfter 0 s.keys
  pub bytes : AreBytes (bytes_of s.keys)
  pub tape : AreBytes s.tape
  pub printer : IsWithin 1000000 s.printer
  pub reader : IsWithin 1000000 s.reader
  pub punch : IsWithin 1000000 s.punch
  pub clock : IsPeriod s.clock
  pub limit : IsWithin 20000000 s.limit

-- the script that says nothing but when the machine is stopped
abbrev pub plain_script : ℕ → ScriptState
plain_script limit =
    record { keys = []; tape = []; printer = 300; reader = 200; punch = 400; clock = None; limit = limit }

-- the script of an empty text
abbrev pub usual_script : ScriptState
usual_script = plain_script 1000000
