-- The calls of device processes, one process after the other.
use Rattle.std.specs.Prelude.{◌≡◌, ◌⊎◌, List, [], ◌∷◌, ◌++◌, IsSome}
use Rattle.std.proofs.Common.{sym, subst, inl, inr, ⊎_elim}
use Rattle.std.proofs.lemmas.List.Elements.{Contains-push, Contains-push_cases, Contains-append_left}
use Rattle.mc_prog.specs.declared.program.Node.{Node}
use Rattle.mc_prog.specs.declared.program.ProcessInfo.{ProcessInfo}
use Rattle.mc_rules.specs.declared.call.Call.{Call}
use Rattle.mc_rules.specs.Calls.{HasCall}
use Rattle.mc_rules.specs.Following.{IsDriverCall}
use Rattle.mc_rules.specs.Gathering.{Adds}
use Rattle.mc_rules.proofs.AddLaws.{contains-none, adds-none, adds-same, adds-both}

pub no-drivers : (nodes : List Node) (a : List Call) → Adds (IsDriverCall nodes []) a a
no-drivers nodes a = adds-none (IsDriverCall nodes []) a (λ call h. contains-none h.process h.one)

more : (nodes : List Node) (processes : List ProcessInfo) (q : ProcessInfo) (call : Call) → IsDriverCall nodes processes call → IsDriverCall nodes (processes ++ (q ∷ [])) call
more nodes processes q call h = record { process = h.process; one = Contains-append_left processes (q ∷ []) h.process h.one; device = h.device; has = h.has }

-- one device process more
pub driver-more : (nodes : List Node) (processes : List ProcessInfo) (q : ProcessInfo) (a b c : List Call) → IsSome q.vector
    → Adds (IsDriverCall nodes processes) a b → Adds (HasCall nodes q.code.body) b c → Adds (IsDriverCall nodes (processes ++ (q ∷ []))) a c
driver-more nodes processes q a b c device h k =
    adds-same (λ call. IsDriverCall nodes processes call ⊎ HasCall nodes q.code.body call) (IsDriverCall nodes (processes ++ (q ∷ []))) a c
    (adds-both (IsDriverCall nodes processes) (HasCall nodes q.code.body) a b c h k)
    (λ call m. ⊎_elim (λ l. more nodes processes q call l) (λ r. record { process = q; one = Contains-push processes q; device = device; has = r }) m)
    (λ call m. ⊎_elim (λ l. inl (record { process = m.process; one = l; device = m.device; has = m.has }))
    (λ (r : q ≡ m.process). inr (subst (λ (p : ProcessInfo). HasCall nodes p.code.body call) (sym r) m.has))
    (Contains-push_cases processes q m.process m.one))

-- a process that is no device process
pub driver-none : (nodes : List Node) (processes : List ProcessInfo) (q : ProcessInfo) (a b : List Call) → (IsSome q.vector → ⊥)
    → Adds (IsDriverCall nodes processes) a b → Adds (IsDriverCall nodes (processes ++ (q ∷ []))) a b
driver-none nodes processes q a b plain h =
    adds-same (IsDriverCall nodes processes) (IsDriverCall nodes (processes ++ (q ∷ []))) a b h
    (λ call m. more nodes processes q call m)
    (λ call m. ⊎_elim (λ l. record { process = m.process; one = l; device = m.device; has = m.has })
    (λ (r : q ≡ m.process). absurd (plain (subst (λ (p : ProcessInfo). IsSome p.vector) (sym r) m.device)))
    (Contains-push_cases processes q m.process m.one))
