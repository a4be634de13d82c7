-- Bytes that are written over those of a segment are so many writes, one address after another.
use Rattle.std.proofs.Common.{◌≡◌, ◌∙◌, ℕ, suc, ◌+◌, ◌-◌, ◌%◌, ◌^◌, ◌<◌, ◌≤◌, List, [], ◌∷◌, length, length-set, set, refl, ap, sym, subst, arith}
use Rattle.vm_facts.specs.Lists.{overwritten}
use Rattle.vm_facts.specs.Answers.{writes_from}
use Rattle.vm_facts.specs.declared.memory.MayWrite.TheVariants as tests
use Rattle.flat_state.specs.declared.spot.Spot.{Spot}
use Rattle.flat_state.specs.declared.spot.Spot.TheVariants.{Data, Stack}
use Rattle.flat_state.specs.Space.{Space, spot_at, address_in, may_write_at, put_at, put_in_space}
use Rattle.flat_state.specs.Writes.{IsWithin, MayPut, Wrote}
use Rattle.flat_state.proofs.Spots.{data_spot, stack_spot, OfStack}
use Rattle.flat_state.proofs.SpotsBeside.{data_beside, stack_beside}
use Rattle.flat_process.specs.Sizes.{IsSized}

-- other bytes in place of some are as many
pub overwritten_length : (xs : List ℕ) (at : ℕ) (ys : List ℕ) → length (overwritten xs at ys) ≡ length xs
overwritten_length xs at [] = refl
overwritten_length xs at (y ∷ ys) = overwritten_length (set xs at y) (at + 1) ys ∙ length-set xs at y

module _ (with_segment : List ℕ → Space) (make : ℕ → Spot) (count room a i : ℕ) where
  -- a space by the bytes of one segment, which lie together from an address on, as far as there is room
  record IsSegment : Type 0 where
    puts : (xs : List ℕ) (x byte : ℕ) → put_at (with_segment xs) (make x) byte ≡ with_segment (set xs x byte)
    may : (x : ℕ) → may_write_at (make x) ≡ tests.May
    within : (xs : List ℕ) (x : ℕ) → x < length xs → IsWithin (with_segment xs) (make x)
    beside : (xs : List ℕ) (j : ℕ) → length xs ≡ count → j < room → address_in (with_segment xs) (a + j) ≡ make (i + j)
    low : a + room < 2 ^ 32
    fits : i + room ≤ count

  wrote_from : IsSegment → (bytes : List ℕ) (j : ℕ) (xs : List ℕ) → length xs ≡ count → j + length bytes ≤ room
      → Wrote (with_segment xs) (writes_from (a + j) bytes) (with_segment (overwritten xs (i + j) bytes))
  wrote_from s [] j xs long few = refl
  wrote_from s (byte ∷ bytes) j xs long few =
      let near : j < room = omega (arith, few) in
      let here : address_in (with_segment xs) (a + j) ≡ make (i + j) = s.beside xs j long near in
      let low : a + room < 2 ^ 32 = s.low in
      let fits : i + room ≤ count = s.fits in
      let inside : i + j < length xs = omega (arith, near, fits, long) in
      let put : MayPut (with_segment xs) (a + j) = record {
        may = ap may_write_at here ∙ s.may (i + j);
        within = subst (IsWithin (with_segment xs)) (sym here) (s.within xs (i + j) inside);
      } in
      let after : List ℕ = set xs (i + j) byte in
      let one : put_in_space (with_segment xs) (record { address = a + j; byte = byte }) ≡ with_segment after =
      ap (λ (p : Spot). put_at (with_segment xs) p byte) here ∙ s.puts xs (i + j) byte in
      let next : (a + j + 1) % 2 ^ 32 ≡ a + suc j = omega (arith, low, near) in
      let place : i + suc j ≡ i + j + 1 = omega arith in
      let rest : Wrote (with_segment after) (writes_from (a + suc j) bytes) (with_segment (overwritten after (i + suc j) bytes)) =
      wrote_from s bytes (suc j) after (length-set xs (i + j) byte ∙ long) (omega (arith, few)) in (
        put,
        subst (λ (x : Space). Wrote x (writes_from ((a + j + 1) % 2 ^ 32) bytes) (with_segment (overwritten after (i + j + 1) bytes))) (sym one)
            (subst (λ (x : ℕ). Wrote (with_segment after) (writes_from x bytes) (with_segment (overwritten after (i + j + 1) bytes))) (sym next)
            (subst (λ (x : ℕ). Wrote (with_segment after) (writes_from (a + suc j) bytes) (with_segment (overwritten after x bytes))) place rest)),
      )

  wrote_all : IsSegment
      → (bytes xs : List ℕ) → length xs ≡ count → length bytes ≤ room → Wrote (with_segment xs) (writes_from a bytes) (with_segment (overwritten xs i bytes))
  wrote_all s bytes xs long few =
      let first : a + 0 ≡ a = omega arith in
      let place : i + 0 ≡ i = omega arith in
      subst (λ (x : ℕ). Wrote (with_segment xs) (writes_from x bytes) (with_segment (overwritten xs i bytes))) first
      (subst (λ (x : ℕ). Wrote (with_segment xs) (writes_from (a + 0) bytes) (with_segment (overwritten xs x bytes))) place
      (wrote_from s bytes 0 xs long (omega (arith, few))))

module _ (s : Space) (sized : IsSized s) where
  pub data_together : (a i : ℕ) (bytes : List ℕ) → address_in s a ≡ Data i → length bytes ≤ length s.data_bytes - i
      → Wrote s (writes_from a bytes) (record s { data_bytes = overwritten s.data_bytes i bytes })
  data_together a i bytes e few =
      let at : (a ≡ length s.text_bytes + i) × (i < length s.data_bytes) = data_spot (length s.text_bytes) (length s.data_bytes) (length s.stack_bytes) a i e in
      wrote_all (λ (xs : List ℕ). record s { data_bytes = xs }) (λ (x : ℕ). Data x) (length s.data_bytes) (length s.data_bytes - i) a i (record {
        puts = λ xs x byte. refl;
        may = λ x. refl;
        within = λ xs x below. below;
        beside = λ xs j long near.
            ap (λ (n : ℕ). spot_at (length s.text_bytes) n (length s.stack_bytes) (a + j)) long
            ∙ data_beside (length s.text_bytes) (length s.data_bytes) (length s.stack_bytes) a i j e (omega (arith, near));
        low = omega (arith, at.0, at.1, sized.of_text, sized.of_data);
        fits = omega (arith, at.1);
      }) bytes s.data_bytes refl few

  pub stack_together : (a i : ℕ) (bytes : List ℕ) → address_in s a ≡ Stack i → i < length s.stack_bytes → length bytes ≤ 1024 - i % 1024
      → Wrote s (writes_from a bytes) (record s { stack_bytes = overwritten s.stack_bytes i bytes })
  stack_together a i bytes e inside few =
      let at : OfStack (length s.stack_bytes) a i = stack_spot (length s.text_bytes) (length s.data_bytes) (length s.stack_bytes) a i e in
      wrote_all (λ (xs : List ℕ). record s { stack_bytes = xs }) (λ (x : ℕ). Stack x) (length s.stack_bytes) (1024 - i % 1024) a i (record {
        puts = λ xs x byte. refl;
        may = λ x. refl;
        within = λ xs x below. below;
        beside = λ xs j long near.
            ap (λ (n : ℕ). spot_at (length s.text_bytes) (length s.data_bytes) n (a + j)) long
            ∙ stack_beside (length s.text_bytes) (length s.data_bytes) (length s.stack_bytes) a i j e (omega (arith, near));
        low = omega (arith, at.below);
        fits = omega (arith, inside, sized.paged);
      }) bytes s.stack_bytes refl few
