-- What a call on one device of a pair means for the pair.
use Rattle.std.proofs.Common.{◌≡◌, ◌≤◌, ◌+◌, ◌*◌, ◌%◌, ℕ, List, length, Option, zero, suc, Some, None, inl, inr, ◌∙◌, ap, subst, refl, sym, arith}
use Rattle.std.proofs.lemmas.Bool.{cases_lt}
use Rattle.io_edge.specs.declared.Moved.{Moved}
use Rattle.io_edge.specs.declared.Moved.TheVariants.{Done, Failed}
use Rattle.io_edge.specs.Count.{Counts, OnDone, OnFailed, Rose, count_after, last_count}
use Rattle.io_edge.specs.SwapImage.{bytes_told, HoldsPage, ReadsPage, WritesPage, SpoilsPage}
use Rattle.vm_facts.specs.SwapImages.{SwapImage}
use Rattle.io_edge.specs.Striping.{of_device, device_of, place_of, pair_blocks, pair_image}
use Rattle.io_edge.specs.PairFailures.{AddsFailures, RoseAlone}
use Rattle.io_edge.specs.PairLeads.{none_after}
use Rattle.io_edge.specs.StripeSizes.{tell_blocks}
use Rattle.io_edge.proofs.StripeWrites.{holds_even, holds_odd, asks_even, asks_odd, writes_even, writes_odd}

none_is_none : (device : ℕ) → None ≡ Some device → ⊥
none_is_none device same = cc

pub on_done : (moved : Moved) (P Q : Type 0) → (P → Q) → OnDone moved P → OnDone moved Q
on_done Done P Q then held = then held
on_done Failed P Q then held = tt

pub on_failed : (moved : Moved) (P Q : Type 0) → (P → Q) → OnFailed moved P → OnFailed moved Q
on_failed Done P Q then held = tt
on_failed Failed P Q then held = then held

-- a told image has its size
abbrev pub IsWhole : Option SwapImage → ℕ → Type 0
IsWhole told size = (image : SwapImage) → told ≡ Some image → length image.bytes ≡ 512 * size

pub pair_reads_even : (even_size odd_size place block : ℕ) (evens odds : Option SwapImage) (bytes : List ℕ) → IsWhole evens even_size
    → IsWhole odds odd_size → place ≡ place_of block → device_of block ≡ 0 → block % 2 ≡ 0 → block + 2 ≤ pair_blocks even_size odd_size
    → HoldsPage (bytes_told evens) place bytes → HoldsPage (bytes_told (pair_image (pair_blocks even_size odd_size) evens odds)) block bytes
pair_reads_even even_size odd_size place block evens odds bytes even_whole odd_whole there on even within held =
    holds_even (pair_blocks even_size odd_size) block evens odds bytes even (omega arith) (tell_blocks even_size odd_size evens odds even_whole odd_whole) on
    (subst (λ (p : ℕ). HoldsPage (bytes_told evens) p bytes) there held)

pub pair_reads_odd : (even_size odd_size place block : ℕ) (evens odds : Option SwapImage) (bytes : List ℕ) → IsWhole evens even_size
    → IsWhole odds odd_size → place ≡ place_of block → device_of block ≡ 1 → block % 2 ≡ 0 → block + 2 ≤ pair_blocks even_size odd_size
    → HoldsPage (bytes_told odds) place bytes → HoldsPage (bytes_told (pair_image (pair_blocks even_size odd_size) evens odds)) block bytes
pair_reads_odd even_size odd_size place block evens odds bytes even_whole odd_whole there on even within held =
    holds_odd (pair_blocks even_size odd_size) block 0 evens odds bytes even (omega arith) (tell_blocks even_size odd_size evens odds even_whole odd_whole) on
    (subst (λ (p : ℕ). HoldsPage (bytes_told odds) p bytes) there held)

-- a read changes no byte
same_bytes : (old new : Option SwapImage) (block : ℕ) → ReadsPage old block new → bytes_told new ≡ bytes_told old
same_bytes None new block asked = ap bytes_told asked
same_bytes (Some image) new block asked = ap bytes_told asked

pub pair_asks_even : (even_size new_size odd_size place block : ℕ) (evens odds new : Option SwapImage) → new_size ≡ even_size → place ≡ place_of block
    → device_of block ≡ 0 → ReadsPage evens place new
    → ReadsPage (pair_image (pair_blocks even_size odd_size) evens odds) block (pair_image (pair_blocks new_size odd_size) new odds)
pair_asks_even even_size new_size odd_size place block evens odds new same there on asked =
    subst (λ (size : ℕ). ReadsPage (pair_image (pair_blocks even_size odd_size) evens odds) block (pair_image (pair_blocks size odd_size) new odds)) (sym same)
    (asks_even (pair_blocks even_size odd_size) block evens odds new on (subst (λ (p : ℕ). ReadsPage evens p new) there asked))

pub pair_asks_odd : (even_size odd_size new_size place block : ℕ) (evens odds new : Option SwapImage) → new_size ≡ odd_size → place ≡ place_of block
    → device_of block ≡ 1 → ReadsPage odds place new
    → ReadsPage (pair_image (pair_blocks even_size odd_size) evens odds) block (pair_image (pair_blocks even_size new_size) evens new)
pair_asks_odd even_size odd_size new_size place block evens odds new same there on asked =
    subst (λ (size : ℕ). ReadsPage (pair_image (pair_blocks even_size odd_size) evens odds) block (pair_image (pair_blocks even_size size) evens new)) (sym same)
    (asks_odd (pair_blocks even_size odd_size) block 0 evens odds new on (subst (λ (p : ℕ). ReadsPage odds p new) there asked))

pub pair_bytes_even : (even_size new_size odd_size place block : ℕ) (evens odds new : Option SwapImage) → new_size ≡ even_size → place ≡ place_of block
    → device_of block ≡ 0 → ReadsPage evens place new
    → bytes_told (pair_image (pair_blocks new_size odd_size) new odds) ≡ bytes_told (pair_image (pair_blocks even_size odd_size) evens odds)
pair_bytes_even even_size new_size odd_size place block evens odds new same there on asked =
    same_bytes (pair_image (pair_blocks even_size odd_size) evens odds) (pair_image (pair_blocks new_size odd_size) new odds) block
    (pair_asks_even even_size new_size odd_size place block evens odds new same there on asked)

pub pair_bytes_odd : (even_size odd_size new_size place block : ℕ) (evens odds new : Option SwapImage) → new_size ≡ odd_size → place ≡ place_of block
    → device_of block ≡ 1 → ReadsPage odds place new
    → bytes_told (pair_image (pair_blocks even_size new_size) evens new) ≡ bytes_told (pair_image (pair_blocks even_size odd_size) evens odds)
pair_bytes_odd even_size odd_size new_size place block evens odds new same there on asked =
    same_bytes (pair_image (pair_blocks even_size odd_size) evens odds) (pair_image (pair_blocks even_size new_size) evens new) block
    (pair_asks_odd even_size odd_size new_size place block evens odds new same there on asked)

pub pair_writes_even : (even_size new_size odd_size place block : ℕ) (evens odds new : Option SwapImage) (bytes : List ℕ) → IsWhole evens even_size
    → IsWhole odds odd_size → new_size ≡ even_size → place ≡ place_of block → device_of block ≡ 0 → block % 2 ≡ 0
    → block + 2 ≤ pair_blocks even_size odd_size → length bytes ≡ 1024 → WritesPage evens place bytes new
    → WritesPage (pair_image (pair_blocks even_size odd_size) evens odds) block bytes (pair_image (pair_blocks new_size odd_size) new odds)
pair_writes_even even_size new_size odd_size place block evens odds new bytes even_whole odd_whole same there on even within whole written =
    subst (λ (size : ℕ). WritesPage (pair_image (pair_blocks even_size odd_size) evens odds) block bytes (pair_image (pair_blocks size odd_size) new odds)) (sym same)
    (writes_even (pair_blocks even_size odd_size) block evens odds new bytes even (omega arith) (tell_blocks even_size odd_size evens odds even_whole odd_whole) whole on
    (subst (λ (p : ℕ). WritesPage evens p bytes new) there written))

pub pair_writes_odd : (even_size odd_size new_size place block : ℕ) (evens odds new : Option SwapImage) (bytes : List ℕ) → IsWhole evens even_size
    → IsWhole odds odd_size → new_size ≡ odd_size → place ≡ place_of block → device_of block ≡ 1 → block % 2 ≡ 0
    → block + 2 ≤ pair_blocks even_size odd_size → length bytes ≡ 1024 → WritesPage odds place bytes new
    → WritesPage (pair_image (pair_blocks even_size odd_size) evens odds) block bytes (pair_image (pair_blocks even_size new_size) evens new)
pair_writes_odd even_size odd_size new_size place block evens odds new bytes even_whole odd_whole same there on even within whole written =
    subst (λ (size : ℕ). WritesPage (pair_image (pair_blocks even_size odd_size) evens odds) block bytes (pair_image (pair_blocks even_size size) evens new)) (sym same)
    (writes_odd (pair_blocks even_size odd_size) block 0 evens odds new bytes even (omega arith) (tell_blocks even_size odd_size evens odds even_whole odd_whole) whole on
    (subst (λ (p : ℕ). WritesPage odds p bytes new) there written))

pub pair_spoils_even : (even_size new_size odd_size place block : ℕ) (evens odds new : Option SwapImage) → IsWhole evens even_size
    → IsWhole odds odd_size → new_size ≡ even_size → place ≡ place_of block → device_of block ≡ 0 → block % 2 ≡ 0
    → block + 2 ≤ pair_blocks even_size odd_size → SpoilsPage evens place new
    → SpoilsPage (pair_image (pair_blocks even_size odd_size) evens odds) block (pair_image (pair_blocks new_size odd_size) new odds)
pair_spoils_even even_size new_size odd_size place block evens odds new even_whole odd_whole same there on even within spoiled =
    (spoiled.0, spoiled.1, pair_writes_even even_size new_size odd_size place block evens odds new spoiled.0 even_whole odd_whole same there on even within spoiled.1 spoiled.2)

pub pair_spoils_odd : (even_size odd_size new_size place block : ℕ) (evens odds new : Option SwapImage) → IsWhole evens even_size
    → IsWhole odds odd_size → new_size ≡ odd_size → place ≡ place_of block → device_of block ≡ 1 → block % 2 ≡ 0
    → block + 2 ≤ pair_blocks even_size odd_size → SpoilsPage odds place new
    → SpoilsPage (pair_image (pair_blocks even_size odd_size) evens odds) block (pair_image (pair_blocks even_size new_size) evens new)
pair_spoils_odd even_size odd_size new_size place block evens odds new even_whole odd_whole same there on even within spoiled =
    (spoiled.0, spoiled.1, pair_writes_odd even_size odd_size new_size place block evens odds new spoiled.0 even_whole odd_whole same there on even within spoiled.1 spoiled.2)

-- a count that rose is that after one more failed call
rose_after : (old new : ℕ) → Rose old new → new ≡ count_after old 1
rose_after old new (inl rises) = omega (arith, rises.0, rises.1)
rose_after old new (inr stands) = omega (arith, stands.0, stands.1)

after_rose : (old new calls : ℕ) → calls ≡ 1 → new ≡ count_after old calls → Rose old new
after_rose old new calls single after =
    elim (cases_lt old last_count) [
      | inl low ↦ inl (low, omega (arith, single, after, low))
      | inr last ↦ inr (omega (arith, last), omega (arith, single, after, last))
    ]

-- no call of the kind was made
pub adds_none : (old_count new_count : ℕ) (old_last new_last : Option ℕ) (old_zero new_zero old_one new_one : ℕ) → new_count ≡ old_count
    → new_last ≡ old_last → new_zero ≡ old_zero → new_one ≡ old_one
    → AddsFailures old_count new_count old_last new_last old_zero new_zero old_one new_one
adds_none old_count new_count old_last new_last old_zero new_zero old_one new_one counts last even odd = record {
  on_zero = 0;
  on_one = 0;
  together = omega (arith, counts);
  zero = omega (arith, even);
  one = omega (arith, odd);
  named = λ device named. inl (sym last ∙ named);
}

named_is : (last : Option ℕ) (a b : ℕ) → last ≡ Some a → last ≡ Some b → b ≡ a
named_is last a b first then = cc

-- a call on device 0, with this answer
pub adds_on_zero : (moved : Moved) (old_count new_count : ℕ) (old_last new_last : Option ℕ) (old_zero new_zero odd : ℕ)
    → Counts moved old_zero new_zero → Counts moved old_count new_count → OnFailed moved (new_last ≡ Some 0) → OnDone moved (new_last ≡ old_last)
    → AddsFailures old_count new_count old_last new_last old_zero new_zero odd odd
adds_on_zero Done old_count new_count old_last new_last old_zero new_zero odd device pair failed done =
    adds_none old_count new_count old_last new_last old_zero new_zero odd odd pair done device refl
adds_on_zero Failed old_count new_count old_last new_last old_zero new_zero odd device pair failed done = record {
  on_zero = 1;
  on_one = 0;
  together = rose_after old_count new_count pair;
  zero = rose_after old_zero new_zero device;
  one = none_after odd;
  named = λ device named. inr (subst (λ (d : ℕ). 1 ≤ of_device d 1 0) (sym (named_is new_last 0 device failed named)) (omega arith));
}

-- a call on device 1, with this answer
pub adds_on_one : (moved : Moved) (old_count new_count : ℕ) (old_last new_last : Option ℕ) (even old_one new_one : ℕ)
    → Counts moved old_one new_one → Counts moved old_count new_count → OnFailed moved (new_last ≡ Some 1) → OnDone moved (new_last ≡ old_last)
    → AddsFailures old_count new_count old_last new_last even even old_one new_one
adds_on_one Done old_count new_count old_last new_last even old_one new_one device pair failed done =
    adds_none old_count new_count old_last new_last even even old_one new_one pair done refl device
adds_on_one Failed old_count new_count old_last new_last even old_one new_one device pair failed done = record {
  on_zero = 0;
  on_one = 1;
  together = rose_after old_count new_count pair;
  zero = none_after even;
  one = rose_after old_one new_one device;
  named = λ device named. inr (subst (λ (d : ℕ). 1 ≤ of_device d 0 1) (sym (named_is new_last 1 device failed named)) (omega arith));
}

-- Of a pair that had no failed call of the kind, and names no device for one.

-- while it counts none, no device does
pub none_rose : (old_count new_count : ℕ) (old_last new_last : Option ℕ) (old_zero new_zero old_one new_one : ℕ)
    → AddsFailures old_count new_count old_last new_last old_zero new_zero old_one new_one → old_count ≡ 0 → new_count ≡ old_count
    → (new_zero ≡ old_zero) × (new_one ≡ old_one)
none_rose old_count new_count old_last new_last old_zero new_zero old_one new_one adds none same =
    let together = adds.together in
    let no_zero : adds.on_zero ≡ 0 = omega (arith, together, none, same) in
    let no_one : adds.on_one ≡ 0 = omega (arith, together, none, same) in
    let even = adds.zero in
    let odd = adds.one in
    (omega (arith, even, no_zero), omega (arith, odd, no_one))

alone_of : (device old_zero new_zero old_one new_one on_even on_odd : ℕ) → on_even + on_odd ≤ 1 → new_zero ≡ count_after old_zero on_even
    → new_one ≡ count_after old_one on_odd → 1 ≤ of_device device on_even on_odd → RoseAlone device old_zero new_zero old_one new_one
alone_of zero old_zero new_zero old_one new_one on_even on_odd single even odd some =
    (after_rose old_zero new_zero on_even (omega (arith, single, some)) even, omega (arith, single, some, odd))
alone_of (suc _) old_zero new_zero old_one new_one on_even on_odd single even odd some =
    (after_rose old_one new_one on_odd (omega (arith, single, some)) odd, omega (arith, single, some, even))

-- while it counts no more than one, the device that it names has counted it, and the other none
pub rose_alone : (old_count new_count : ℕ) (old_last new_last : Option ℕ) (old_zero new_zero old_one new_one device : ℕ)
    → AddsFailures old_count new_count old_last new_last old_zero new_zero old_one new_one → old_count ≡ 0 → old_last ≡ None
    → new_count ≤ 1 → new_last ≡ Some device → RoseAlone device old_zero new_zero old_one new_one
rose_alone old_count new_count old_last new_last old_zero new_zero old_one new_one device adds none unnamed few named =
    let together = adds.together in
    let single : adds.on_zero + adds.on_one ≤ 1 = omega (arith, none, together, few) in
    elim (adds.named device named) [
      | inl before ↦ absurd (none_is_none device (sym unnamed ∙ before))
      | inr some ↦ alone_of device old_zero new_zero old_one new_one adds.on_zero adds.on_one single adds.zero adds.one some
    ]
