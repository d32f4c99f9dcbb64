-- A process goes on, before or after a word is written.
use Rattle.std.specs.Prelude.{◌≡◌, ℕ, List, Option, Some, None, refl}
use Rattle.pdp_dev.specs.declared.register.Register.{Register}
use Rattle.pdp_dev.specs.Register.{register_at}
use Rattle.mc_meaning.specs.declared.process.Item.{Item}
use Rattle.mc_meaning.specs.declared.store.Found.{Found}
use Rattle.mc_meaning.specs.declared.store.Target.{Target}
use Rattle.mc_meaning.specs.declared.store.Target.TheVariants as target
use Rattle.mc_meaning.specs.Access.{after_reading, after_writing, after_writing_bit, register_written, with_bit, word_at}
use Rattle.mc_meaning.specs.Configuration.{Configuration, ProcessState}
use Rattle.mc_meaning.specs.Steps.{goes_on}

register-later : (c : Configuration) (n : ℕ) (q : ProcessState) (f : List Found) (rest : List Item) (r : Option Register) (w : ℕ) → goes_on (register_written c w r) n q f rest ≡ register_written (goes_on c n q f rest) w r
register-later c n q f rest None w = refl
register-later c n q f rest (Some r) w = refl

pub writing_later : (c : Configuration) (n : ℕ) (q : ProcessState) (f : List Found) (rest : List Item) (there : Target) (w : ℕ) → goes_on (after_writing c there w) n q f rest ≡ after_writing (goes_on c n q f rest) there w
writing_later c n q f rest (target.Stored name) w = refl
writing_later c n q f rest (target.Register a) w = register-later c n q f rest (register_at a) w

pub bits_later : (c : Configuration) (n : ℕ) (q : ProcessState) (f : List Found) (rest : List Item) (there : Target) (i w : ℕ) → goes_on (after_writing_bit c there i w) n q f rest ≡ after_writing_bit (goes_on c n q f rest) there i w
bits_later c n q f rest (target.Stored name) i w = refl
bits_later c n q f rest (target.Register a) i w = register-later (after_reading c (target.Register a)) n q f rest (register_at a) (with_bit (word_at c (target.Register a)) i w)

-- a word that was read, with the devices as they were
pub read-back : (c : Configuration) (there : Target) → ◌≡◌ {A = Configuration} (record (after_reading c there) { devices = c.devices }) c
read-back c (target.Stored name) = refl
read-back c (target.Register a) = refl
