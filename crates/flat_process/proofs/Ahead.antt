-- Bytes of a segment that lie together are so many addresses of its space.
use Rattle.std.proofs.Common.{◌≡◌, ◌∙◌, ℕ, ◌+◌, ◌-◌, ◌%◌, ◌^◌, ◌<◌, List, length, length-drop, drop, take, ap, sym, arith}
use Rattle.std.specs.Prelude.{slice_index}
use Rattle.std.proofs.lemmas.List.{get_or-drop, get_or-take, length-take}
use Rattle.vm_facts.specs.Ahead.{AreAhead, MayAhead}
use Rattle.vm_facts.specs.declared.memory.ByteRead.TheVariants as reads
use Rattle.flat_state.specs.declared.spot.Spot.TheVariants.{Text, Data, Stack}
use Rattle.flat_state.specs.Space.{Space, address_in, byte_at, may_write_at, answers_of}
use Rattle.flat_state.proofs.Spots.{text_spot, data_spot, stack_spot, OfStack}
use Rattle.flat_state.proofs.SpotsBeside.{text_beside, data_beside, stack_beside}
use Rattle.flat_process.specs.Sizes.{IsSized}

module _ (s : Space) (sized : IsSized s) where
  pub text_ahead : (a i : ℕ) (bytes : List ℕ) → address_in s a ≡ Text i → bytes ≡ drop i s.text_bytes → AreAhead (answers_of s) a bytes
  text_ahead a i bytes e is j below =
      let at : (a ≡ i) × (i < length s.text_bytes) = text_spot (length s.text_bytes) (length s.data_bytes) (length s.stack_bytes) a i e in
      let count : length bytes ≡ length s.text_bytes - i = ap length is ∙ length-drop i s.text_bytes in
      let near : i + j < length s.text_bytes = omega (arith, count, below) in
      let plain : (a + j) % 2 ^ 32 ≡ a + j = omega (arith, at.0, near, sized.of_text) in
      ap (λ (x : ℕ). byte_at s (address_in s x)) plain
      ∙ ap (byte_at s) (text_beside (length s.text_bytes) (length s.data_bytes) (length s.stack_bytes) a i j e near)
      ∙ ap (λ (b : ℕ). reads.Is b) (sym (get_or-drop i s.text_bytes j 0) ∙ ap (λ (bs : List ℕ). slice_index bs j) (sym is))

  pub data_ahead : (a i : ℕ) (bytes : List ℕ) → address_in s a ≡ Data i → bytes ≡ drop i s.data_bytes → AreAhead (answers_of s) a bytes
  data_ahead a i bytes e is j below =
      let at : (a ≡ length s.text_bytes + i) × (i < length s.data_bytes) = data_spot (length s.text_bytes) (length s.data_bytes) (length s.stack_bytes) a i e in
      let count : length bytes ≡ length s.data_bytes - i = ap length is ∙ length-drop i s.data_bytes in
      let near : i + j < length s.data_bytes = omega (arith, count, below) in
      let plain : (a + j) % 2 ^ 32 ≡ a + j = omega (arith, at.0, near, sized.of_text, sized.of_data) in
      ap (λ (x : ℕ). byte_at s (address_in s x)) plain
      ∙ ap (byte_at s) (data_beside (length s.text_bytes) (length s.data_bytes) (length s.stack_bytes) a i j e near)
      ∙ ap (λ (b : ℕ). reads.Is b) (sym (get_or-drop i s.data_bytes j 0) ∙ ap (λ (bs : List ℕ). slice_index bs j) (sym is))

  pub stack_ahead : (a i : ℕ) (bytes : List ℕ) → address_in s a ≡ Stack i → bytes ≡ take (1024 - i % 1024) (drop i s.stack_bytes) → AreAhead (answers_of s) a bytes
  stack_ahead a i bytes e is j below =
      let at : OfStack (length s.stack_bytes) a i = stack_spot (length s.text_bytes) (length s.data_bytes) (length s.stack_bytes) a i e in
      let count : length bytes ≡ length (take (1024 - i % 1024) (drop i s.stack_bytes)) = ap length is in
      let cut = length-take (1024 - i % 1024) (drop i s.stack_bytes) in
      let short : j < 1024 - i % 1024 = omega (arith, count, cut, below) in
      let near : i % 1024 + j < 1024 = omega (arith, short) in
      let plain : (a + j) % 2 ^ 32 ≡ a + j = omega (arith, at.below, near) in
      ap (λ (x : ℕ). byte_at s (address_in s x)) plain
      ∙ ap (byte_at s) (stack_beside (length s.text_bytes) (length s.data_bytes) (length s.stack_bytes) a i j e near)
      ∙ ap (λ (b : ℕ). reads.Is b) (sym (get_or-drop i s.stack_bytes j 0) ∙ sym (get_or-take (1024 - i % 1024) (drop i s.stack_bytes) j 0 short) ∙ ap (λ (bs : List ℕ). slice_index bs j) (sym is))

  pub data_writable : (a i count : ℕ) → address_in s a ≡ Data i → count ≡ length s.data_bytes - i → MayAhead (answers_of s) a count
  data_writable a i count e is j below =
      let at : (a ≡ length s.text_bytes + i) × (i < length s.data_bytes) = data_spot (length s.text_bytes) (length s.data_bytes) (length s.stack_bytes) a i e in
      let near : i + j < length s.data_bytes = omega (arith, is, below) in
      let plain : (a + j) % 2 ^ 32 ≡ a + j = omega (arith, at.0, near, sized.of_text, sized.of_data) in
      ap (λ (x : ℕ). may_write_at (address_in s x)) plain
      ∙ ap may_write_at (data_beside (length s.text_bytes) (length s.data_bytes) (length s.stack_bytes) a i j e near)

  pub stack_writable : (a i count : ℕ) → address_in s a ≡ Stack i → count ≡ 1024 - i % 1024 → MayAhead (answers_of s) a count
  stack_writable a i count e is j below =
      let at : OfStack (length s.stack_bytes) a i = stack_spot (length s.text_bytes) (length s.data_bytes) (length s.stack_bytes) a i e in
      let near : i % 1024 + j < 1024 = omega (arith, is, below) in
      let plain : (a + j) % 2 ^ 32 ≡ a + j = omega (arith, at.below, near) in
      ap (λ (x : ℕ). may_write_at (address_in s x)) plain
      ∙ ap may_write_at (stack_beside (length s.text_bytes) (length s.data_bytes) (length s.stack_bytes) a i j e near)
