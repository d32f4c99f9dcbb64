-- The kernel: the addresses of its entries, in its words' listing.
use Rattle.std.specs.Prelude.{ℕ, List, [], ◌∷◌}

-- entered by EMT; by a grant of each vector
abbrev pub emt_at : ℕ
emt_at = 0o400

abbrev pub reader_stub : ℕ
reader_stub = 0o426

abbrev pub punch_stub : ℕ
punch_stub = 0o436

abbrev pub keys_stub : ℕ
keys_stub = 0o446

abbrev pub printer_stub : ℕ
printer_stub = 0o456

abbrev pub clock_stub : ℕ
clock_stub = 0o466

abbrev pub wait_at : ℕ
wait_at = 0o710

abbrev pub send_at : ℕ
send_at = 0o610

abbrev pub back_at : ℕ
back_at = 0o672

abbrev pub doio_at : ℕ
doio_at = 0o746

abbrev pub start_at : ℕ
start_at = 0o772

abbrev pub end_at : ℕ
end_at = 0o754

abbrev pub interrupt_at : ℕ
interrupt_at = 0o474

abbrev pub choose_at : ℕ
choose_at = 0o536

abbrev pub trap_at : ℕ
trap_at = 0o1126

-- Wait, send, awaited, doio, start, end, enter, leave, interrupt, choose, trap. What is written out in place (awaited, enter,
-- leave) changes no list: its entry is `back`, which gives the caller its registers again.
unfoldable pub kernel_entries : List ℕ
kernel_entries = wait_at ∷ send_at ∷ back_at ∷ doio_at ∷ start_at ∷ end_at ∷ back_at ∷ back_at ∷ interrupt_at ∷ choose_at ∷ trap_at ∷ []
