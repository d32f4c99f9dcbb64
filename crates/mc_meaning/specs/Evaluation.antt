-- One step of the topmost process. A step that replaces a statement or an expression by its parts changes nothing
-- else; every other step reads at most one word and changes at most one.
use Rattle.std.specs.Prelude.{ℕ, ◌==◌, List, [], ◌∷◌, ◌++◌, map, filter, not, Option, Some, None, slice_get, slice_set}
use Rattle.pdp_dev.specs.declared.register.Register.{Register}
use Rattle.pdp_dev.specs.Register.{register_at}
use Rattle.pdp_dev.specs.Devices.{written, said_at}
use Rattle.pdp_def.specs.Does.{entries}
use Rattle.mc_prog.specs.Program.{Cell, Constant, Assign, ModuleKind, Plain, Interface, Device, Module, CellInfo, Program}
use Rattle.mc_meaning.specs.Config.{Variable, Target, InStore, InRegister, Finished, Value, Named, Item, CallsBody, Runs, Names, Evaluates, Writes, Returns, Ends, Activation, Kind, Main, Regular, Driver, Ended, Process, Config, topmost}

abbrev pub with_process : Config → ℕ → Process → Config
with_process c p q = record c { processes = slice_set c.processes p q }

-- the target that a variable names: its register, or its first word
abbrev pub place_of : ℕ → Option ℕ → Target
place_of n None = InStore (Variable n 0)
place_of n (Some a) = InRegister a

abbrev pub target_of : ℕ → Option CellInfo → Target
target_of n None = InStore (Variable n 0)
target_of n (Some cell) = place_of n cell.register

abbrev pub write_register : ℕ → Option Register → Config → Config
write_register w None c = c
write_register w (Some r) c =
    record c { devices = written c.devices r w; journal = c.journal ++ entries (said_at c.devices r w) }

abbrev pub write_target : Target → ℕ → Config → Config
write_target (InStore name) w c = record c { store = record { name = name; word = w } ∷ c.store }
write_target (InRegister a) w c = write_register w (register_at a) c

-- inside a device module its priority holds, elsewhere the priority stays
abbrev pub priority_inside : ModuleKind → ℕ → ℕ → ℕ
priority_inside Device own before = own
priority_inside Plain own before = before
priority_inside Interface own before = before

-- the call of a module's body
abbrev pub enter_body : Config → ℕ → Process → ℕ → List Item → Option Module → Config
enter_body c p q m rest None = c
enter_body c p q m rest (Some body_of) =
    with_process c p (record q {
      priority = priority_inside body_of.kind body_of.priority q.priority;
      activations = record { module_of = Some m; before = q.priority; frame = body_of.frame } ∷ q.activations;
      rest = map Runs body_of.body ++ (Returns ∷ rest);
    })

-- the end of a call restores the priority
abbrev pub leave : Config → ℕ → Process → List Item → List Activation → Config
leave c p q rest [] = c
leave c p q rest (a ∷ activations) =
    with_process c p (record q { priority = a.before; activations = activations; rest = rest })

-- a process that ends leaves the nest, or leaves the foot empty
abbrev pub vacate : Kind → ℕ → Config → Config
vacate Main p c = record c { foot = None }
vacate Regular p c = record c { foot = None }
vacate (Driver v) p c = record c { nest = filter (λ m. not (m.process == p)) c.nest }

-- the value is written to the target that was named before it
abbrev pub assign : Config → ℕ → Process → List Item → List Finished → Config
assign c p q rest (Value w ∷ Named t ∷ finished) = write_target t w (with_process c p (record q { finished = finished; rest = rest }))
assign c p q rest _ = c

-- what the process p, which is q, does next
abbrev pub next : Program → Config → ℕ → Process → List Item → Config
next program c p q [] = c
next program c p q (CallsBody m ∷ rest) = enter_body c p q m rest (slice_get program.modules m)
next program c p q (Runs (Assign d e) ∷ rest) =
    with_process c p (record q { rest = Names d ∷ Evaluates e ∷ Writes ∷ rest })
next program c p q (Names (Cell n) ∷ rest) =
    with_process c p (record q { finished = Named (target_of n (slice_get program.cells n)) ∷ q.finished; rest = rest })
next program c p q (Evaluates (Constant w) ∷ rest) =
    with_process c p (record q { finished = Value w ∷ q.finished; rest = rest })
next program c p q (Writes ∷ rest) = assign c p q rest q.finished
next program c p q (Returns ∷ rest) = leave c p q rest q.activations
next program c p q (Ends ∷ rest) = vacate q.kind p (with_process c p (record q { state = Ended; rest = rest }))

abbrev pub eval_process : Program → Config → ℕ → Option Process → Config
eval_process program c p None = c
eval_process program c p (Some q) = next program c p q q.rest

abbrev pub eval_at : Program → Config → Option ℕ → Config
eval_at program c None = c
eval_at program c (Some p) = eval_process program c p (slice_get c.processes p)

-- one evaluation step of the topmost process
abbrev pub eval : Program → Config → Config
eval program c = eval_at program c (topmost c)
