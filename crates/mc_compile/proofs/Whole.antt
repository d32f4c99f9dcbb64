-- For each list of moments from the image's opening there is a run that tracks it.
use Rattle.std.proofs.Common.{◌≡◌, ◌≢◌, ℕ, zero, suc, ◌+◌, ◌*◌, ◌-◌, ◌/◌, ◌%◌, ◌<◌, ◌≤◌, true, List, [], ◌∷◌, length, Some, refl, sym, ap, ◌∙◌, subst, arith, length-append, ◌⊎◌, inl, inr}
use Rattle.std.specs.Prelude.{slice_index, slice_get, Contains, map}
use Rattle.std.specs.List.{flat_map}
use Rattle.std.proofs.lemmas.Bool.{false≢true}
use Rattle.tracking.specs.Simulation.{weaker, Simulated, tracked}
use Rattle.pdp_dev.specs.declared.devices.Devices.{Devices}
use Rattle.pdp_dev.specs.declared.entry.Entry.{Entry}
use Rattle.pdp_def.specs.Bytes.{patched_by, patched-inside}
use Rattle.pdp_def.specs.Laws.{HasAt, HasAt-each}
use Rattle.pdp_def.specs.Moments.{MachineState, happens, IsPossible}
use Rattle.mc_image.specs.declared.image.Block.{Block}
use Rattle.mc_image.specs.Blocks.{AreBlocks}
use Rattle.pdp_machine.specs.Opening.{byte_with, image_memory, image_memory-at, length-image_memory}
use Rattle.mc_prog.specs.Program.{Program}
use Rattle.mc_meaning.specs.Config.{Nested, Config, live, opening_config}
use Rattle.mc_meaning.specs.Runs.{steps, IsStep, earns}
use Rattle.mc_meaning.specs.Exclusion.{IsInside, as_foot, as_member, Exclusive}
use Rattle.mc_straight.specs.declared.form.Put.{Put}
use Rattle.mc_tree.specs.declared.tree.Tree.{Tree}
use Rattle.mc_tree.specs.Trees.{tokens_of}
use Rattle.mc_image.specs.Image.{ImageState}
use Rattle.mc_straight.specs.Laws.{length-tokens_of, slice_get-variables}
use Rattle.mc_straight.specs.Form.{Straight, IsStraight, program_of, size_of}
use Rattle.mc_prog.specs.Resolved.{Resolved}
use Rattle.mc_compile.specs.Accepted.{IsParsed, IsAcceptedTree}
use Rattle.mc_compile.specs.Code.{leave_code, puts_code, code_of, word_bytes, image_of, IsImageOf}
use Rattle.mc_compile.specs.Tracks.{Bounds, opened, IsAtRest, Agrees, Tracked, Compiled, CompiledFrom}
use Rattle.mc_compile.proofs.Quiet.{quiet_opening}
use Rattle.mc_compile.proofs.Simulation.{Phase, Before, Inside, Behind, Done, config_at, process_at, AreKnown, IsActing, IsWaiting, IsRelated, follows}

-- The words of an image stand in memory

length-word_bytes : (words : List ℕ) → length (flat_map word_bytes words) ≡ 2 * length words
length-word_bytes [] = refl
length-word_bytes (w ∷ words) = omega (arith, length-word_bytes words)

low_byte : (words : List ℕ) (i : ℕ) → i < length words → slice_index (flat_map word_bytes words) (2 * i) ≡ slice_index words i % 256
low_byte [] i h = absurd (omega arith)
low_byte (w ∷ words) zero h = refl
low_byte (w ∷ words) (suc i) h =
    let e : 2 * suc i ≡ suc (suc (2 * i)) = omega arith in
    ap (slice_index (flat_map word_bytes (w ∷ words))) e ∙ low_byte words i (omega arith)

high_byte : (words : List ℕ) (i : ℕ) → i < length words → slice_index (flat_map word_bytes words) (2 * i + 1) ≡ slice_index words i / 256
high_byte [] i h = absurd (omega arith)
high_byte (w ∷ words) zero h = refl
high_byte (w ∷ words) (suc i) h =
    let e : 2 * suc i + 1 ≡ suc (suc (2 * i + 1)) = omega arith in
    ap (slice_index (flat_map word_bytes (w ∷ words))) e ∙ high_byte words i (omega arith)

module _ (words : List ℕ) (room : 4096 + length words ≤ 28672) where
  blocks : List Block
  blocks = (image_of words).blocks

  bytes : List ℕ
  bytes = flat_map word_bytes words

  in_code : (a k : ℕ) → a ≡ 8192 + k → k < length bytes → byte_with blocks a 0 ≡ slice_index bytes k
  unfolding blocks bytes
  in_code a k e h =
      let k' : a - 8192 ≡ k = omega arith in
      patched-inside (length bytes) bytes 8192 a (patched_by 2 (1 ∷ 0 ∷ []) 40 a 0) (omega arith) (omega arith) ∙ ap (slice_index bytes) k'

  word_there : (i : ℕ) → i < length words → slice_index (image_memory 28672 blocks) (4096 + i) ≡ slice_index words i
  unfolding blocks bytes
  word_there i h =
      let len = length-word_bytes words in
      let low = in_code (2 * (4096 + i)) (2 * i) (omega arith) (omega (arith, len)) ∙ low_byte words i h in
      let high = in_code (2 * (4096 + i) + 1) (2 * i + 1) (omega arith) (omega (arith, len)) ∙ high_byte words i h in
      let w : ℕ = slice_index words i in
      let whole : w % 256 + 256 * (w / 256) ≡ w = omega arith in
      image_memory-at 28672 blocks (4096 + i) (omega arith) ∙ ap (λ (x : ℕ). x + 256 * byte_with blocks (2 * (4096 + i) + 1) 0) low ∙ ap (λ (y : ℕ). w % 256 + 256 * y) high ∙ whole

  pub words_stand : HasAt (image_memory 28672 (image_of words).blocks) 4096 words
  unfolding blocks
  words_stand = HasAt-each (image_memory 28672 blocks) 4096 words word_there

  pub one_process : slice_index (image_memory 28672 (image_of words).blocks) 20 ≡ 1
  unfolding blocks
  one_process = image_memory-at 28672 blocks 20 (omega arith)

length-puts_code : (puts : List Put) → length (puts_code puts) ≡ 3 * length puts
length-puts_code [] = refl
length-puts_code (put ∷ puts) = omega (arith, length-puts_code puts)

pub length-code_of : (form : Straight) → length (code_of form) ≡ 3 * length form.puts + 10
length-code_of form = omega (arith, length-append (puts_code form.puts) leave_code, length-puts_code form.puts)

-- What is related agrees

inside_foot : (c : Config) (m p : ℕ) → c.nest ≡ [] → IsInside c m p → c.foot ≡ Some p
inside_foot c m p e (as_foot f w r) = f
inside_foot c m p e (as_member h r) =
    let h' = subst (λ (l : List Nested). Contains (map (λ n. n.process) l) p) e h in
    absurd (omega (arith, h'.1))

exclusive_at : (program : Program) (form : Straight) (phase : Phase) (d : Devices) (j : List Entry) → Exclusive program (config_at form phase d j)
exclusive_at program form phase d j m p q x a b =
    let fp = inside_foot (config_at form phase d j) m p refl a in
    let fq = inside_foot (config_at form phase d j) m q refl b in
    cc

live_most : (form : Straight) (phase : Phase) → live (process_at form phase ∷ []) ≤ 1
live_most form Before = omega arith
live_most form (Inside puts) = omega arith
live_most form Behind = omega arith
live_most form Done = omega arith

module _ (form : Straight) (bounds : Bounds) (one : 1 ≤ bounds.processes) where
  at_rest : (m : MachineState) (phase : Phase) (n : ℕ) → IsActing form phase m n ⊎ IsWaiting phase m n → m.core.waiting ≡ true → IsAtRest m (config_at form phase m.devices m.journal)
  at_rest m phase n (inl a) w = absurd (false≢true (sym a.runs ∙ w))
  at_rest m phase n (inr r) w =
      subst (λ (p : Phase). IsAtRest m (config_at form p m.devices m.journal)) (sym r.waits.done) (record {
        nothing_acts = refl;
        nothing_ready = (refl, tt);
        no_trap = refl;
        priority = r.waits.priority;
        count = r.waits.count;
      })

  counts : (m : MachineState) (phase : Phase) (n : ℕ) → IsActing form phase m n ⊎ IsWaiting phase m n → m.instructions ≤ 1000 * n + 1000
  counts m phase n (inl a) = omega (arith, a.instructions)
  counts m phase n (inr r) = omega (arith, r.instructions)

  agrees : (m : MachineState) (c : Config) (n : ℕ) → IsRelated form m c n → Agrees (program_of form) bounds m c n
  agrees m c n r =
      subst (λ (c' : Config). Agrees (program_of form) bounds m c' n) (sym r.config) (record {
        journal = refl;
        devices = refl;
        instructions = counts m r.phase n r.stands;
        waits = at_rest m r.phase n r.stands;
        no_bus_fault = λ a e. cc (r.goes, e);
        no_reserved = λ w e. cc (r.goes, e);
        halts = λ e. absurd (cc (r.goes, e));
        exclusive = exclusive_at (program_of form) form r.phase m.devices m.journal;
        room = omega (arith, live_most form r.phase, one);
      })

  opening_related : 4096 + length (code_of form) ≤ 28672 → AreKnown form form.puts → IsRelated form (opened (image_of (code_of form))) (opening_config (program_of form)) 0
  opening_related room known =
      record {
        phase = Before;
        config = refl;
        known = known;
        quiet = quiet_opening;
        goes = refl;
        stands = inl (record {
          at = record {
            place = 4096;
            ps = 0;
            memory = image_memory 28672 (image_of (code_of form)).blocks;
            core_is = refl;
            stands = words_stand (code_of form) room;
            room = room;
            above = omega arith;
            level = refl;
            words = length-image_memory 28672 (image_of (code_of form)).blocks;
            count = one_process (code_of form) room;
          };
          runs = refl;
          instructions = omega arith;
        });
      }

  -- the image of the code of a straight-line program is compiled from it
  pub compiled : (4 ≤ form.priority) × (form.priority ≤ 7) → 4096 + length (code_of form) ≤ 28672 → AreKnown form form.puts → Compiled (program_of form) bounds (image_of (code_of form))
  compiled level room known moments possible =
      let program : Program = program_of form in
      let t = tracked happens IsPossible (steps program) (IsStep program) earns (IsRelated form) (follows form level) (opened (image_of (code_of form))) (opening_config program) (opening_related room known) moments possible in
      weaker (Simulated happens IsPossible (steps program) (IsStep program) earns (IsRelated form) (opened (image_of (code_of form))) (opening_config program)) (Tracked program bounds (image_of (code_of form))) moments
      (λ done ups s. record { is_run = s.is_run; agrees = agrees _ _ _ s.related }) t

-- What the form of the tree gives

known_each : (form : Straight) (puts : List Put) → ((k : ℕ) (put : Put) → slice_get puts k ≡ Some put → slice_get form.variables put.variable ≡ Some put.port) → AreKnown form puts
known_each form [] each = tt
known_each form (put ∷ puts) each = (each 0 put refl, known_each form puts (λ k other h. each (suc k) other h))

known_variables : (tree : Tree) (form : Straight) → IsStraight tree form → AreKnown form form.puts
known_variables tree form s = known_each form form.puts (slice_get-variables tree form s)

-- an accepted tree has not too many tokens
pub tokens_within : (tree : Tree) (tokens : ℕ) (program : Resolved) → IsAcceptedTree tree tokens program → 12 * tokens ≤ 20000
tokens_within tree tokens program a = omega (arith, ap (λ (p : Resolved). p.size) a.faultless.typed.program_is, a.small)

pub has_room : (tree : Tree) (form : Straight) → 12 * length (tokens_of tree) ≤ 20000 → IsStraight tree form → 4096 + length (code_of form) ≤ 28672
has_room tree form size s = omega (arith, length-code_of form, size, length-tokens_of tree form s)

-- a source of the form that is accepted, and the image of its code
pub compiled_from : (source : List ℕ) (tree : Tree) (tokens : ℕ) (program : Resolved) (workspace processes : ℕ) (image : ImageState) → 1 ≤ processes → IsParsed source tree tokens → IsAcceptedTree tree tokens program → IsImageOf tree image → CompiledFrom source workspace processes image
compiled_from source tree tokens program workspace processes image one parsed accepted made =
    let count : 12 * length parsed.read ≤ 20000 = omega (arith, parsed.count, tokens_within tree tokens program accepted) in
    let room = has_room tree made.form (omega (arith, count, ap length parsed.parsed.tokens_are)) made.straight in
    let bounds : Bounds = record { workspace = workspace; processes = processes; size = size_of parsed.read } in
    let priority = made.straight.straight.priority in
    record {
      form = made.form;
      straight = record { tokens = parsed.read; end = parsed.end; spelled = parsed.spelled; tree = tree; parsed = parsed.parsed; size = count; straight = made.straight };
      program = program;
      accepted = record { faultless = record { tree = tree; tokens = tokens; parsed = parsed; faultless = accepted.faultless }; small = accepted.small };
      compiled = subst (λ (i : ImageState). Compiled (program_of made.form) bounds i) (sym made.is)
          (compiled made.form bounds one (priority.least, priority.most) room (known_variables tree made.form made.straight));
    }

pub blocks_fit : (content : List ℕ) → 1 ≤ length content → 8192 + length content ≤ 57344 → AreBlocks (record { address = 0o50; bytes = 1 ∷ 0 ∷ [] } ∷ record { address = 0o20000; bytes = content } ∷ [])
blocks_fit content some room =
    let none : List ℕ = [] in
    let two : List ℕ = 1 ∷ 0 ∷ [] in
    let more : content ≢ none = λ (e : content ≡ none). absurd (omega (arith, ap length e)) in
    let first : two ≢ none = λ (e : two ≡ none). absurd (omega (arith, ap length e)) in
    ((first, omega arith), (inl (omega arith), tt), ((more, omega arith), tt, tt))

pub length-bytes : (words : List ℕ) → length (flat_map word_bytes words) ≡ 2 * length words
length-bytes words = length-word_bytes words
