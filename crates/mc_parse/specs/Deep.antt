-- What is read one counting node deeper, as the rules of such nodes write it.
use Rattle.std.specs.Prelude.{◌≡◌, ◌+◌, ◌<◌, ℕ, suc, List}
use Rattle.std.proofs.Common.{subst, sym, arith}
use Rattle.mc_tree.specs.declared.place.Place.{Place}
use Rattle.mc_tree.specs.declared.token.Token.{Token}
use Rattle.mc_tree.specs.declared.expression.Args.{Args}
use Rattle.mc_tree.specs.declared.statement.Body.{Body}
use Rattle.mc_tree.specs.declared.tree.Lists.{Lists}
use Rattle.mc_tree.specs.declared.tree.Plain.{Plain}
use Rattle.mc_tree.specs.declared.tree.Face.{Face}
use Rattle.mc_tree.specs.declared.tree.Device.{Device}
use Rattle.mc_tree.specs.Grammar.{Phrase, Rule, first, depth_of_first}
use Rattle.mc_tree.specs.Phrases.{Of}
use Rattle.mc_parse.specs.declared.fault.ParseFault.{ParseFault}
use Rattle.mc_parse.specs.declared.frame.DeviceHead.{DeviceHead}
use Rattle.mc_parse.specs.declared.fault.ParseFault.TheVariants.{TooDeep}
use Rattle.mc_parse.specs.Heads.{HasFirst, place_of}
use Rattle.mc_parse.specs.Reads.{IsRead, IsRefused, IsRefusedAs}
use Rattle.mc_parse.specs.Slots.{IsArgsRead, args_ahead, IsBodyRead, body_ahead, IsListsRead, lists_ahead, IsPlainRead, plain_ahead, IsFaceRead, face_ahead, IsDeviceRead, device_ahead}
use Rattle.mc_parse.specs.Frames.{IsDeviceHeadRead, device_head_ahead}
use Rattle.mc_parse.specs.Steps.{too_deep}

next_depth : (inner d : ℕ) → inner ≡ d + 1 → inner ≡ suc d
next_depth inner d e = omega arith

pub deep_read : {end : Place} {inner d : ℕ} {phrase : Phrase} {ts : List Token} {x : Of phrase} {others : List Token} → inner ≡ d + 1 → IsRead end inner phrase ts x others → IsRead end (suc d) phrase ts x others
deep_read {end} {inner} {d} {phrase} {ts} {x} {others} e r = subst (λ (n : ℕ). IsRead end n phrase ts x others) (next_depth inner d e) r

pub deep_refused : {end : Place} {inner d : ℕ} {phrase : Phrase} {ts : List Token} {fault : ParseFault} → inner ≡ d + 1 → IsRefused end inner phrase ts fault → IsRefused end (suc d) phrase ts fault
deep_refused {end} {inner} {d} {phrase} {ts} {fault} e r = subst (λ (n : ℕ). IsRefused end n phrase ts fault) (next_depth inner d e) r

-- a node that begins too deep
pub too_deep_at : {end : Place} {phrase : Phrase} (r : Rule phrase) {d : ℕ} {ts : List Token} {fault : ParseFault} (place : Place) → HasFirst (first r) ts → 64 < depth_of_first r d → place ≡ place_of end ts → fault ≡ TooDeep place → IsRefused end d phrase ts fault
too_deep_at {end} {phrase} r {d} {ts} {fault} place h deep p e = subst (λ (f : ParseFault). IsRefused end d phrase ts f) (sym e) (subst (λ (q : Place). IsRefused end d phrase ts (TooDeep q)) (sym p) (too_deep end r d ts h deep))

pub deep_args : {end : Place} {inner d : ℕ} {ts : List Token} (a : Args) {others : List Token} → inner ≡ d + 1 → IsArgsRead end inner ts a others → IsArgsRead end (suc d) ts a others
deep_args {end} {inner} {d} {ts} a {others} e r = subst (λ (n : ℕ). IsArgsRead end n ts a others) (next_depth inner d e) r

pub deep_args_refused : {end : Place} {inner d : ℕ} {ts : List Token} {fault : ParseFault} → inner ≡ d + 1 → IsRefusedAs end (args_ahead inner) ts fault → IsRefusedAs end (args_ahead (suc d)) ts fault
deep_args_refused {end} {inner} {d} {ts} {fault} e r = subst (λ (n : ℕ). IsRefusedAs end (args_ahead n) ts fault) (next_depth inner d e) r

pub deep_body : {end : Place} {inner d : ℕ} {ts : List Token} (b : Body) {others : List Token} → inner ≡ d + 1 → IsBodyRead end inner ts b others → IsBodyRead end (suc d) ts b others
deep_body {end} {inner} {d} {ts} b {others} e r = subst (λ (n : ℕ). IsBodyRead end n ts b others) (next_depth inner d e) r

pub deep_body_refused : {end : Place} {inner d : ℕ} {ts : List Token} {fault : ParseFault} → inner ≡ d + 1 → IsRefusedAs end (body_ahead inner) ts fault → IsRefusedAs end (body_ahead (suc d)) ts fault
deep_body_refused {end} {inner} {d} {ts} {fault} e r = subst (λ (n : ℕ). IsRefusedAs end (body_ahead n) ts fault) (next_depth inner d e) r

pub deep_device_head : {end : Place} {inner d : ℕ} {ts : List Token} {h : DeviceHead} {others : List Token} → inner ≡ d + 1 → IsDeviceHeadRead end inner ts h others → IsDeviceHeadRead end (suc d) ts h others
deep_device_head {end} {inner} {d} {ts} {h} {others} e r = subst (λ (n : ℕ). IsDeviceHeadRead end n ts h others) (next_depth inner d e) r

pub deep_device_head_refused : {end : Place} {inner d : ℕ} {ts : List Token} {fault : ParseFault} → inner ≡ d + 1 → IsRefusedAs end (device_head_ahead inner) ts fault → IsRefusedAs end (device_head_ahead (suc d)) ts fault
deep_device_head_refused {end} {inner} {d} {ts} {fault} e r = subst (λ (n : ℕ). IsRefusedAs end (device_head_ahead n) ts fault) (next_depth inner d e) r

pub deep_lists : {end : Place} {inner d : ℕ} {ts : List Token} {l : Lists} {others : List Token} → inner ≡ d + 1 → IsListsRead end inner ts l others → IsListsRead end (suc d) ts l others
deep_lists {end} {inner} {d} {ts} {l} {others} e r = subst (λ (n : ℕ). IsListsRead end n ts l others) (next_depth inner d e) r

pub deep_lists_refused : {end : Place} {inner d : ℕ} {ts : List Token} {fault : ParseFault} → inner ≡ d + 1 → IsRefusedAs end (lists_ahead inner) ts fault → IsRefusedAs end (lists_ahead (suc d)) ts fault
deep_lists_refused {end} {inner} {d} {ts} {fault} e r = subst (λ (n : ℕ). IsRefusedAs end (lists_ahead n) ts fault) (next_depth inner d e) r

pub deep_plain : {end : Place} {inner d : ℕ} {ts : List Token} (b : Plain) {others : List Token} → inner ≡ d + 1 → IsPlainRead end inner ts b others → IsPlainRead end (suc d) ts b others
deep_plain {end} {inner} {d} {ts} b {others} e r = subst (λ (n : ℕ). IsPlainRead end n ts b others) (next_depth inner d e) r

pub deep_plain_refused : {end : Place} {inner d : ℕ} {ts : List Token} {fault : ParseFault} → inner ≡ d + 1 → IsRefusedAs end (plain_ahead inner) ts fault → IsRefusedAs end (plain_ahead (suc d)) ts fault
deep_plain_refused {end} {inner} {d} {ts} {fault} e r = subst (λ (n : ℕ). IsRefusedAs end (plain_ahead n) ts fault) (next_depth inner d e) r

pub deep_face : {end : Place} {inner d : ℕ} {ts : List Token} {b : Face} {others : List Token} → inner ≡ d + 1 → IsFaceRead end inner ts b others → IsFaceRead end (suc d) ts b others
deep_face {end} {inner} {d} {ts} {b} {others} e r = subst (λ (n : ℕ). IsFaceRead end n ts b others) (next_depth inner d e) r

pub deep_face_refused : {end : Place} {inner d : ℕ} {ts : List Token} {fault : ParseFault} → inner ≡ d + 1 → IsRefusedAs end (face_ahead inner) ts fault → IsRefusedAs end (face_ahead (suc d)) ts fault
deep_face_refused {end} {inner} {d} {ts} {fault} e r = subst (λ (n : ℕ). IsRefusedAs end (face_ahead n) ts fault) (next_depth inner d e) r

pub deep_device : {end : Place} {inner d : ℕ} {ts : List Token} {b : Device} {others : List Token} → inner ≡ d + 1 → IsDeviceRead end inner ts b others → IsDeviceRead end (suc d) ts b others
deep_device {end} {inner} {d} {ts} {b} {others} e r = subst (λ (n : ℕ). IsDeviceRead end n ts b others) (next_depth inner d e) r

pub deep_device_refused : {end : Place} {inner d : ℕ} {ts : List Token} {fault : ParseFault} → inner ≡ d + 1 → IsRefusedAs end (device_ahead inner) ts fault → IsRefusedAs end (device_ahead (suc d)) ts fault
deep_device_refused {end} {inner} {d} {ts} {fault} e r = subst (λ (n : ℕ). IsRefusedAs end (device_ahead n) ts fault) (next_depth inner d e) r
