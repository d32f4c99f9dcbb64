-- The opening of a program from its parts.
use Rattle.std.specs.Prelude.{◌≡◌, List, [], ◌∷◌, ◌++◌, Some, None}
use Rattle.std.proofs.Common.{ap, ◌∙◌}
use Rattle.pdp_dev.specs.declared.devices.Devices.{Devices}
use Rattle.pdp_dev.specs.declared.entry.Entry.{Entry}
use Rattle.pdp_dev.specs.Devices.{opening_devices}
use Rattle.mc_prog.specs.Resolved.{Resolved}
use Rattle.mc_meaning.specs.declared.config.Nested.{Nested}
use Rattle.mc_meaning.specs.declared.config.Waiter.{Waiter}
use Rattle.mc_meaning.specs.Configuration.{Configuration, ProcessState, Store, main_process, opening}

pub opened : (p : Resolved) (store : Store) (devices : Devices) (before processes : List ProcessState) (q : ProcessState) (nest : List Nested) (waiters : List Waiter) (journal : List Entry)
    → store ≡ (λ name. 0) → devices ≡ opening_devices → before ≡ [] → processes ≡ before ++ (q ∷ []) → q ≡ main_process p → nest ≡ [] → waiters ≡ [] → journal ≡ []
    → ◌≡◌ {A = Configuration} (record { store = store; devices = devices; processes = processes; foot = Some 0; nest = nest; waiters = waiters; trap = None; journal = journal }) (opening p)
opened p store devices before processes q nest waiters journal es ed eb ep eq en ew ej =
    let all : processes ≡ main_process p ∷ [] = ep ∙ ap (λ (b : List ProcessState). b ++ (q ∷ [])) eb ∙ ap (λ (s : ProcessState). s ∷ []) eq in
    λ i. record { store = es i; devices = ed i; processes = all i; foot = Some 0; nest = en i; waiters = ew i; trap = None; journal = ej i }
