-- The data of a space: where a longword lies in them, and that writes keep its sizes.
use Rattle.std.proofs.Common.{◌≡◌, ℕ, ◌+◌, ◌-◌, ◌^◌, ◌<◌, ◌≤◌, ◌&&◌, Bool, true, false, nat_lt, nat_le, List, [], ◌∷◌, length, slice_index, refl, ap, ◌∙◌, arith}
use Rattle.std.proofs.lemmas.List.{length-set}
use Rattle.std.proofs.lemmas.Bool.Decides.{nat_tests}
use Rattle.vm_facts.specs.Answers.{ByteWrite}
use Rattle.vm_facts.specs.declared.memory.ByteRead.TheVariants as reads
use Rattle.vm_facts.specs.declared.memory.MayWrite.TheVariants as tests
use Rattle.flat_state.specs.declared.spot.Spot.{Spot}
use Rattle.flat_state.specs.declared.spot.Spot.TheVariants.{Text, Data, Stack, Below, Outside}
use Rattle.flat_state.specs.Space.{Space, stack_top, stack_reach, spot_by, spot_at, address_in, byte_at, may_write_at, answers_of, put_at, put_in_space, puts}
use Rattle.user_vax.specs.Operands.{past}
use Rattle.load_maker.specs.Programs.{w_bytes, v_bytes}
use Rattle.load_maker.specs.Stages.{W, V, text_page}
use Rattle.load_maker.proofs.Instructions.{HasWord}

-- ---- sizes

-- the same text, and as many bytes of data and stack
pub record SameSizes (s t : Space) : Type 0 where
  pub sid : t.sid ≡ s.sid
  pub image : t.image ≡ s.image
  pub text : t.text_bytes ≡ s.text_bytes
  pub size : length t.data_bytes ≡ length s.data_bytes
  pub stack : length t.stack_bytes ≡ length s.stack_bytes

put_sizes : (s : Space) (spot : Spot) (byte : ℕ) → SameSizes s (put_at s spot byte)
put_sizes s (Text i) byte = record { sid = refl; image = refl; text = refl; size = refl; stack = refl }
put_sizes s (Data i) byte = record { sid = refl; image = refl; text = refl; size = length-set s.data_bytes i byte; stack = refl }
put_sizes s (Stack i) byte = record { sid = refl; image = refl; text = refl; size = refl; stack = length-set s.stack_bytes i byte }
put_sizes s Below byte = record { sid = refl; image = refl; text = refl; size = refl; stack = refl }
put_sizes s Outside byte = record { sid = refl; image = refl; text = refl; size = refl; stack = refl }

pub puts_sizes : (ws : List ByteWrite) (s : Space) → SameSizes s (puts s ws)
puts_sizes [] s = record { sid = refl; image = refl; text = refl; size = refl; stack = refl }
puts_sizes (w ∷ ws) s =
    let a : SameSizes s (put_in_space s w) = put_sizes s (address_in s w.address) w.byte in
    let b : SameSizes (put_in_space s w) (puts (put_in_space s w) ws) = puts_sizes ws (put_in_space s w) in
    record { sid = b.sid ∙ a.sid; image = b.image ∙ a.image; text = b.text ∙ a.text; size = b.size ∙ a.size; stack = b.stack ∙ a.stack }

-- ---- a longword of the data

pub text_long : (pages : ℕ) (t : Rattle.load_maker.specs.Stages.LoadProgram) → length (text_page pages t) ≡ 1024
unfolding text_page w_bytes v_bytes
text_long pages W = refl
text_long pages V = refl

spot_of : (x size stack : ℕ) → 1024 ≤ x → x < 1024 + size → spot_at 1024 size stack x ≡ Data (x - 1024)
unfolding spot_at
spot_of x size stack low high =
    let a : nat_lt x 1024 ≡ false = grind (arith, nat_tests) in
    let b : nat_lt x (1024 + size) ≡ true = grind (arith, nat_tests) in
    ap (λ (c : Bool). spot_by c (nat_lt x (1024 + size)) (nat_le (stack_top - stack) x && nat_lt x stack_top) (nat_le (stack_top - stack_reach) x && nat_lt x stack_top) 1024 x) a
    ∙ ap (λ (c : Bool). spot_by false c (nat_le (stack_top - stack) x && nat_lt x stack_top) (nat_le (stack_top - stack_reach) x && nat_lt x stack_top) 1024 x) b

address_of_data : (s : Space) (x : ℕ) → length s.text_bytes ≡ 1024 → 1024 ≤ x → x < 1024 + length s.data_bytes → address_in s x ≡ Data (x - 1024)
address_of_data s x long low high =
    ap (λ (n : ℕ). spot_at n (length s.data_bytes) (length s.stack_bytes) x) long ∙ spot_of x (length s.data_bytes) (length s.stack_bytes) low high

reads_data : (s : Space) (x : ℕ) → length s.text_bytes ≡ 1024 → 1024 ≤ x → x < 1024 + length s.data_bytes
    → (answers_of s).read x ≡ reads.Is (slice_index s.data_bytes (x - 1024))
reads_data s x long low high = ap (byte_at s) (address_of_data s x long low high)

tests_data : (s : Space) (x : ℕ) → length s.text_bytes ≡ 1024 → 1024 ≤ x → x < 1024 + length s.data_bytes → (answers_of s).may_write x ≡ tests.May
tests_data s x long low high = ap may_write_at (address_of_data s x long low high)

-- an address after this one, of the data
next_in : (x : ℕ) → x < 2 ^ 31 → past x 1 ≡ x + 1
next_in x lt = omega arith

pub has_word : (s : Space) (a : ℕ) → length s.text_bytes ≡ 1024 → 1024 ≤ a → a + 3 < 1024 + length s.data_bytes → a + 3 < 2 ^ 31 → HasWord s a
has_word s a long low high small = record {
  b0 = _;
  b1 = _;
  b2 = _;
  b3 = _;
  r0 = reads_data s a long low (omega arith);
  r1 = reads_data s (past a 1) long (omega (arith, one)) (omega (arith, one));
  r2 = reads_data s (past (past a 1) 1) long (omega (arith, two)) (omega (arith, two));
  r3 = reads_data s (past (past (past a 1) 1) 1) long (omega (arith, three)) (omega (arith, three));
  t0 = tests_data s a long low (omega arith);
  t1 = tests_data s (past a 1) long (omega (arith, one)) (omega (arith, one));
  t2 = tests_data s (past (past a 1) 1) long (omega (arith, two)) (omega (arith, two));
  t3 = tests_data s (past (past (past a 1) 1) 1) long (omega (arith, three)) (omega (arith, three));
}
  where
    one : past a 1 ≡ a + 1
    one = next_in a (omega arith)

    two : past (past a 1) 1 ≡ a + 2
    two = ap (λ (x : ℕ). past x 1) one ∙ (next_in (a + 1) (omega arith) ∙ omega arith)

    three : past (past (past a 1) 1) 1 ≡ a + 3
    three = ap (λ (x : ℕ). past x 1) two ∙ (next_in (a + 2) (omega arith) ∙ omega arith)
