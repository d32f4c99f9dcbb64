use Rattle.std.proofs.Common.{◌≡◌, true, ap, ◌∙◌, sym, inl, inr, refl, ⊎_elim}
use Rattle.mc_prog.specs.Scopes.{near as near_of, far as far_of}
use Rattle.mc_prog.specs.Standard.{is_standard as is_standard_of}
use Rattle.mc_resolve.specs.Around.{around}
use Rattle.mc_resolve.specs.Table.{first_found}
use Rattle.mc_resolve.proofs.Found.{near-known, near-unknown, far-known, far-unknown, false-true}
use Rattle.mc_resolve.proofs.resolver.Resolver.unknown.Goals as goal

-- src/resolver.rt: known near
pub returns-then-is_some : goal.returns-then-is_some
returns-then-is_some c = λ before st f u.
    let places = c.args.self.now.known.places in
    let n = c.near.ensures ∙ ap (λ ss. first_found places (near_of (around ss)) c.as_slice-text.result.now) c.as_slice-scopes.ensures.value ∙ ap (λ x. first_found places (near_of (around c.args.self.now.scopes.items)) x) c.as_slice-text.ensures in
    let k = near-known before c.args.self.now st c.args.name.now.text c.near.result n (sym c.is_some.ensures ∙ c.if-is_some.true) in
    ⊎_elim (λ a. a.0 k) (λ a. a.0 k) u

pub returns-in-Some : goal.returns-in-Some
returns-in-Some c = λ before st.
    let places = c.args.self.now.known.places in
    let n = c.near.ensures ∙ ap (λ ss. first_found places (near_of (around ss)) c.as_slice-text.result.now) c.as_slice-scopes.ensures.value ∙ ap (λ x. first_found places (near_of (around c.args.self.now.scopes.items)) x) c.as_slice-text.ensures in
    let m = c.far.ensures ∙ ap (λ ss. first_found places (far_of (around ss)) c.as_slice-text.result.now) c.as_slice-scopes.ensures.value ∙ ap (λ x. first_found places (far_of (around c.args.self.now.scopes.items)) x) c.as_slice-text.ensures in
    let unknown = near-unknown before c.args.self.now st c.args.name.now.text c.near.result n (sym c.is_some.ensures ∙ c.if-is_some.false) in
    let standard = λ (s : is_standard_of c.args.name.now.text ≡ true). false-true (sym c.if-is_standard.false ∙ c.is_standard.ensures ∙ ap is_standard_of c.as_slice-text.ensures ∙ s) in
    let further = far-known before c.args.self.now st c.args.name.now.text c.far.result m c.in-Some.field-0 c.in-Some.is in
    (inr (unknown, standard, further, refl), λ g u. ⊎_elim (λ a. absurd (a.2 further)) (λ a. a.3) u)

pub returns-in-None : goal.returns-in-None
returns-in-None c = λ before st.
    let places = c.args.self.now.known.places in
    let n = c.near.ensures ∙ ap (λ ss. first_found places (near_of (around ss)) c.as_slice-text.result.now) c.as_slice-scopes.ensures.value ∙ ap (λ x. first_found places (near_of (around c.args.self.now.scopes.items)) x) c.as_slice-text.ensures in
    let m = c.far.ensures ∙ ap (λ ss. first_found places (far_of (around ss)) c.as_slice-text.result.now) c.as_slice-scopes.ensures.value ∙ ap (λ x. first_found places (far_of (around c.args.self.now.scopes.items)) x) c.as_slice-text.ensures in
    let unknown = near-unknown before c.args.self.now st c.args.name.now.text c.near.result n (sym c.is_some.ensures ∙ c.if-is_some.false) in
    let standard = λ (s : is_standard_of c.args.name.now.text ≡ true). false-true (sym c.if-is_standard.false ∙ c.is_standard.ensures ∙ ap is_standard_of c.as_slice-text.ensures ∙ s) in
    let nowhere_further = far-unknown before c.args.self.now st c.args.name.now.text c.far.result m c.in-None.is in
    (inl (unknown, standard, nowhere_further, refl), λ g u. ⊎_elim (λ a. a.3) (λ a. absurd (nowhere_further a.2)) u)
