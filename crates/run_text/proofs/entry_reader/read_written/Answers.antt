-- No space after the process, no digits, or no pairs of digits.
use Rattle.std.proofs.Common.{rules, ◌≡◌, ◌∷◌, List, ℕ, sym, ◌∙◌, length}
use Rattle.run_text.specs.Text.{hex_text}
use Rattle.run_text.proofs.EntryTexts.{behind_process, no_bytes}
use Rattle.run_text.proofs.entry_reader.read_written.Goals as goal

pub returns-in_default-strip_front : goal.returns-in_default-strip_front
returns-in_default-strip_front c pid bytes small some below is =
    c.in_default-strip_front.ensures (hex_text bytes)
    (behind_process c.args.rest.now c.in-Some.behind.now c.in-Some.pid c.in-Some.ensures.0 c.in-Some.ensures.1 c.in-Some.ensures.2 pid bytes small is)

same_rest : (a : ℕ) (xs ys : List ℕ) → a ∷ xs ≡ a ∷ ys → xs ≡ ys
same_rest a xs ys e = cc

pub returns-then-is_empty : goal.returns-then-is_empty
returns-then-is_empty c pid bytes small some below is =
    let none : length c.in-Some-strip_front.digits.now ≡ 0 = search rules in
    no_bytes c.in-Some-strip_front.digits.now bytes none some
    (same_rest 32 c.in-Some-strip_front.digits.now (hex_text bytes)
    (sym c.in-Some-strip_front.ensures ∙ behind_process c.args.rest.now c.in-Some.behind.now c.in-Some.pid c.in-Some.ensures.0 c.in-Some.ensures.1 c.in-Some.ensures.2 pid bytes small is))

pub returns-in-Ok-None : goal.returns-in-Ok-None
returns-in-Ok-None c pid bytes small some below is =
    let none = rw c.in-Ok-None.field-0-is at c.in-Ok-None.ensures in
    none bytes below
    (same_rest 32 c.in-Some-strip_front.digits.now (hex_text bytes)
    (sym c.in-Some-strip_front.ensures ∙ behind_process c.args.rest.now c.in-Some.behind.now c.in-Some.pid c.in-Some.ensures.0 c.in-Some.ensures.1 c.in-Some.ensures.2 pid bytes small is))
