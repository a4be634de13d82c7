-- Writes to the bytes of a space, and what it answers afterwards.
use Rattle.std.proofs.Common.{◌≡◌, ℕ, ◌-◌, ◌*◌, ◌/◌, ◌%◌, ◌≤◌, ◌==◌, ◌⊎◌, inl, inr, Bool, false, List, [], ◌∷◌, ◌++◌, length, refl, sym, ap, ◌∙◌, subst, arith, eq-eqb}
use Rattle.std.proofs.lemmas.Bool.{cases_eq}
use Rattle.std.proofs.lemmas.Bool.Decides.{nat_tests}
use Rattle.std.proofs.lemmas.Grind.{common_steps}
use Rattle.std.proofs.lemmas.List.{length-set, get_or-set_same, get_or-set_other}
use Rattle.vm_facts.specs.Answers.{Answers, ByteWrite, read_by, put_byte as put_in, written}
use Rattle.flat_state.specs.Space.{Space, spot_at, stack_top, address_in, byte_at, may_write_at, answers_of, put_at, put_in_space, puts}
use Rattle.vm_facts.specs.declared.memory.ByteRead.TheVariants as reads
use Rattle.vm_facts.specs.declared.memory.MayWrite.TheVariants as tests
use Rattle.flat_state.specs.declared.spot.Spot.{Spot}
use Rattle.flat_state.specs.declared.spot.Spot.TheVariants.{Text, Data, Stack, Below, Outside}
use Rattle.flat_state.specs.Change.{resized_bytes}
use Rattle.flat_state.specs.Writes.{IsWithin, MayPut, Wrote}
use Rattle.flat_state.proofs.Spots.{text_spot, data_spot, stack_spot, OfStack, stack_index_once, stack_index_within}

-- an address names the same after a write
pub spot_after : (s : Space) (p : Spot) (byte a : ℕ) → address_in (put_at s p byte) a ≡ address_in s a
spot_after s (Text k) byte a = refl
spot_after s (Data k) byte a = ap (λ (n : ℕ). spot_at (length s.text_bytes) n (length s.stack_bytes) a) (length-set s.data_bytes k byte)
spot_after s (Stack k) byte a = ap (λ (n : ℕ). spot_at (length s.text_bytes) (length s.data_bytes) n a) (length-set s.stack_bytes k byte)
spot_after s Below byte a = refl
spot_after s Outside byte a = refl

read_there : (s : Space) (p : Spot) (byte : ℕ) → IsWithin s p → may_write_at p ≡ tests.May → byte_at (put_at s p byte) p ≡ reads.Is byte
read_there s (Text k) byte within may = absurd cc
read_there s (Data k) byte within may = ap (λ (x : ℕ). reads.Is x) (get_or-set_same s.data_bytes k byte 0 within)
read_there s (Stack k) byte within may = ap (λ (x : ℕ). reads.Is x) (get_or-set_same s.stack_bytes k byte 0 within)
read_there s Below byte within may = absurd cc
read_there s Outside byte within may = absurd cc

read_elsewhere : (s : Space) (p q : Spot) (byte : ℕ) → (q ≡ p → ⊥) → byte_at (put_at s p byte) q ≡ byte_at s q
read_elsewhere s (Text k) q byte other = refl
read_elsewhere s Below q byte other = refl
read_elsewhere s Outside q byte other = refl
read_elsewhere s (Data k) (Text i) byte other = refl
read_elsewhere s (Data k) (Data i) byte other = ap (λ (x : ℕ). reads.Is x) (get_or-set_other s.data_bytes k i byte 0 (λ e. other (ap (λ (x : ℕ). Data x) e)))
read_elsewhere s (Data k) (Stack i) byte other = refl
read_elsewhere s (Data k) Below byte other = refl
read_elsewhere s (Data k) Outside byte other = refl
read_elsewhere s (Stack k) (Text i) byte other = refl
read_elsewhere s (Stack k) (Data i) byte other = refl
read_elsewhere s (Stack k) (Stack i) byte other = ap (λ (x : ℕ). reads.Is x) (get_or-set_other s.stack_bytes k i byte 0 (λ e. other (ap (λ (x : ℕ). Stack x) e)))
read_elsewhere s (Stack k) Below byte other = refl
read_elsewhere s (Stack k) Outside byte other = refl

-- the stack has whole pages
abbrev pub IsPaged : Space → Type 0
IsPaged s = length s.stack_bytes % 1024 ≡ 0

-- an address names a byte of its segment
pub spot_within : (s : Space) (a : ℕ) (p : Spot) → IsPaged s → address_in s a ≡ p → IsWithin s p
spot_within s a (Text k) w e = (text_spot _ _ _ _ _ e).1
spot_within s a (Data k) w e = (data_spot _ _ _ _ _ e).1
spot_within s a (Stack k) w e =
    let of_stack : OfStack (length s.stack_bytes) a k = stack_spot _ _ _ _ _ e in
    let whole : length s.stack_bytes ≡ 1024 * (length s.stack_bytes / 1024) = omega arith in
    let above : stack_top - 1024 * (length s.stack_bytes / 1024) ≤ a = omega (arith, of_stack.above) in
    let inside = stack_index_within (length s.stack_bytes / 1024) a above of_stack.below in
    omega (arith, inside, of_stack.index)
spot_within s a Below w e = tt
spot_within s a Outside w e = tt

-- two addresses of one byte that may be written are one
pub spot_once : (s : Space) (a b : ℕ) (p : Spot) → may_write_at p ≡ tests.May → address_in s a ≡ p → address_in s b ≡ p → a ≡ b
spot_once s a b (Text k) may e f = absurd cc
spot_once s a b (Data k) may e f =
    let x = (data_spot _ _ _ _ _ e).0 in
    let y = (data_spot _ _ _ _ _ f).0 in
    omega (arith, x, y)
spot_once s a b (Stack k) may e f =
    let x : OfStack (length s.stack_bytes) a k = stack_spot _ _ _ _ _ e in
    let y : OfStack (length s.stack_bytes) b k = stack_spot _ _ _ _ _ f in
    stack_index_once a b x.below y.below (sym x.index ∙ y.index)
spot_once s a b Below may e f = absurd cc
spot_once s a b Outside may e f = absurd cc

-- what is read after a write
read_after : (s : Space) (w : ByteWrite) (a : ℕ) → MayPut s w.address
    → byte_at (put_in_space s w) (address_in s a) ≡ read_by (a == w.address) w.byte (byte_at s (address_in s a))
read_after s w a may = go (cases_eq a w.address)
  where
    go : (a ≡ w.address) ⊎ (a ≡ w.address → ⊥) → byte_at (put_in_space s w) (address_in s a) ≡ read_by (a == w.address) w.byte (byte_at s (address_in s a))
    go (inl e) =
        ap (λ (x : ℕ). byte_at (put_in_space s w) (address_in s x)) e
        ∙ read_there s (address_in s w.address) w.byte may.within may.may
        ∙ ap (λ (b : Bool). read_by b w.byte (byte_at s (address_in s a))) (sym (eq-eqb a w.address e))
    go (inr other) =
        read_elsewhere s (address_in s w.address) (address_in s a) w.byte (λ e. other (spot_once s a w.address (address_in s w.address) may.may e refl))
        ∙ ap (λ (b : Bool). read_by b w.byte (byte_at s (address_in s a))) (let test : false ≡ (a == w.address) = grind (arith, nat_tests) in test)

-- after a write the space answers as before, but for the byte that was written
pub put_answers : (s : Space) (w : ByteWrite) → MayPut s w.address → answers_of (put_in_space s w) ≡ put_in (answers_of s) w
put_answers s w may = λ i. record {
  read = λ a. (ap (byte_at (put_in_space s w)) (spot_after s (address_in s w.address) w.byte a) ∙ read_after s w a may) i;
  may_write = λ a. ap may_write_at (spot_after s (address_in s w.address) w.byte a) i;
}

-- so it is after writes in a row
pub wrote_answers : (old new : Space) (ws : List ByteWrite) → Wrote old ws new → answers_of new ≡ written (answers_of old) ws
wrote_answers old new [] h = ap answers_of (sym h)
wrote_answers old new (w ∷ ws) h = wrote_answers (put_in_space old w) new ws h.1 ∙ ap (λ (x : Answers). written x ws) (put_answers old w h.0)

pub wrote_more : (a b c : Space) (xs ys : List ByteWrite) → Wrote a xs b → Wrote b ys c → Wrote a (xs ++ ys) c
wrote_more a b c [] ys h k = subst (λ (x : Space). Wrote x ys c) (sym h) k
wrote_more a b c (x ∷ xs) ys h k = (h.0, wrote_more (put_in_space a x) b c xs ys h.1 k)

-- what was written is the bytes put in order
pub wrote_puts : (old new : Space) (ws : List ByteWrite) → Wrote old ws new → new ≡ puts old ws
wrote_puts old new [] h = sym h
wrote_puts old new (w ∷ ws) h = wrote_puts (put_in_space old w) new ws h.1

-- A write leaves the number of the space.

pub put_sid : (s : Space) (spot : Spot) (byte : ℕ) → (put_at s spot byte).sid ≡ s.sid
put_sid s (Text i) byte = refl
put_sid s (Data i) byte = refl
put_sid s (Stack i) byte = refl
put_sid s Below byte = refl
put_sid s Outside byte = refl

pub puts_sid : (ws : List ByteWrite) (s : Space) → (puts s ws).sid ≡ s.sid
puts_sid [] s = refl
puts_sid (w ∷ ws) s = puts_sid ws (put_in_space s w) ∙ put_sid s (address_in s w.address) w.byte

-- Other sizes.

pub length-resized_bytes : (pages : ℕ) (bytes : List ℕ) → length (resized_bytes pages bytes) ≡ 1024 * pages
length-resized_bytes pages bytes = grind (arith, common_steps)
