-- Instructions that stand in bytes which may not be written still stand there after others were carried out.
use Rattle.std.specs.Prelude.{IfSome, option_copied}
use Rattle.std.proofs.Common.{◌≡◌, ◌≢◌, ◌∙◌, ◌⊎◌, inl, inr, ℕ, zero, suc, ◌+◌, ◌%◌, ◌^◌, ◌<◌, ◌≤◌, ◌==◌, Bool, false, List, [], ◌∷◌, length, take, set, replicate, Option, Some, None, Result, Ok, Err, get_or, slice_get, Bor, refl, ap, sym, subst, arith}
use Rattle.std.proofs.lemmas.Bool.Decides.{nat_tests}
use Rattle.std.proofs.Math.Seq.{take-length}
use Rattle.std.proofs.lemmas.Bool.{cases_lt}
use Rattle.std.proofs.lemmas.List.{get_or-take, length-take}
use Rattle.std.proofs.lemmas.Option.{slice_get-get_or}
use Rattle.vm_facts.specs.Ahead.{AreAhead}
use Rattle.vm_facts.specs.Answers.{Answers, ByteWrite, put_byte, read_by, written}
use Rattle.vm_facts.specs.declared.memory.ByteRead.TheVariants as bytes
use Rattle.vm_facts.specs.declared.memory.MayWrite.{MayWrite}
use Rattle.vm_facts.specs.declared.memory.MayWrite.TheVariants.{May}
use Rattle.vm_facts.specs.declared.regs.Regs.{Regs}
use Rattle.vax_code.specs.Reading.{decoded}
use Rattle.user_vax.specs.declared.refused.Refused.{Refused}
use Rattle.user_vax.specs.Effects.{Effect}
use Rattle.user_vax.specs.Instruction.{MayAll, fetch, instruction, writes_of}
use Rattle.user_vax.specs.Program.{run}
use Rattle.user_vax.proofs.Allowed.{instruction_allowed}
use Rattle.user_step.specs.declared.decode_cache.DecodeCache.{DecodeCache}
use Rattle.user_step.specs.declared.decoding.Decoding.{Decoding}
use Rattle.user_step.specs.declared.fixed_code.FixedCode.{FixedCode}
use Rattle.user_step.specs.FixedCode.{AreFixed, IsSameElsewhere, StandsAt, StayFrom}
use Rattle.user_step.proofs.Ahead.{fetched_first}

-- ---- Lists of places.

-- no address stands where there is none
pub none_among : (n place address : ℕ) → slice_get (replicate n (let o : Option ℕ = None in o)) place ≡ Some (Some address) → ⊥
none_among zero place address h = absurd cc
none_among (suc n) zero address h = absurd cc
none_among (suc n) (suc place) address h = none_among n place address h

-- where a place was emptied, another has what it had
pub emptied : (at : List (Option ℕ)) (p place address : ℕ) → slice_get (set at p None) place ≡ Some (Some address) → slice_get at place ≡ Some (Some address)
emptied [] p place address h = h
emptied (own ∷ at) zero zero address h = absurd cc
emptied (own ∷ at) zero (suc place) address h = h
emptied (own ∷ at) (suc p) zero address h = h
emptied (own ∷ at) (suc p) (suc place) address h = emptied at p place address h

pub empty_there : (at : List (Option ℕ)) (p : ℕ) → p < length at → slice_get (set at p None) p ≡ Some None
empty_there [] p below = absurd (omega (arith, below))
empty_there (own ∷ at) zero below = refl
empty_there (own ∷ at) (suc p) below = empty_there at p (omega (arith, below))

-- where a place was given an address, it has that one, and another what it had
pub filled : (at : List (Option ℕ)) (p given place address : ℕ) → slice_get (set at p (Some given)) place ≡ Some (Some address)
    → (given ≡ address) ⊎ (slice_get at place ≡ Some (Some address))
filled [] p given place address h = inr h
filled (own ∷ at) zero given zero address h = inl cc
filled (own ∷ at) zero given (suc place) address h = inr h
filled (own ∷ at) (suc p) given zero address h = inr h
filled (own ∷ at) (suc p) given (suc place) address h = filled at p given place address h

-- where no address is remembered, each that is stands fixed
pub none_fixed : (memory : Answers) (cache : DecodeCache) (address : ℕ)
    → slice_get (replicate 512 (let o : Option ℕ = None in o)) (address % 512) ≡ Some (Some address)
    → StandsAt memory address (slice_get cache.places (address % 512)) × StayFrom memory address
none_fixed memory cache address h = absurd (none_among 512 (address % 512) address h)

-- one more address is remembered, at which an instruction stands in bytes that stay
pub fixed_more : (memory : Answers) (at : List (Option ℕ)) (cache : DecodeCache) (given address : ℕ)
    → ((a : ℕ) → slice_get at (a % 512) ≡ Some (Some a) → StandsAt memory a (slice_get cache.places (a % 512)) × StayFrom memory a)
    → StayFrom memory given → StandsAt memory given (slice_get cache.places (given % 512))
    → slice_get (set at (given % 512) (Some given)) (address % 512) ≡ Some (Some address)
    → StandsAt memory address (slice_get cache.places (address % 512)) × StayFrom memory address
fixed_more memory at cache given address earlier stay stands h = go (filled at (given % 512) given (address % 512) address h)
  where
    go : (given ≡ address) ⊎ (slice_get at (address % 512) ≡ Some (Some address)) → StandsAt memory address (slice_get cache.places (address % 512)) × StayFrom memory address
    go (inl same) = subst (λ (a : ℕ). StandsAt memory a (slice_get cache.places (a % 512)) × StayFrom memory a) same (stands, stay)
    go (inr had) = earlier address had

-- ---- Bytes that may not be written.

-- one more of them
pub stay_more : (memory : Answers) (address count : ℕ) → ((i : ℕ) → i < count → memory.may_write ((address + i) % 2 ^ 32) ≢ May)
    → memory.may_write ((address + count) % 2 ^ 32) ≢ May → (i : ℕ) → i < count + 1 → memory.may_write ((address + i) % 2 ^ 32) ≢ May
stay_more memory address count earlier here i below = go (cases_lt i count)
  where
    go : (i < count) ⊎ (count ≤ i) → memory.may_write ((address + i) % 2 ^ 32) ≢ May
    go (inl less) = earlier i less
    go (inr least) = subst (λ (k : ℕ). memory.may_write ((address + k) % 2 ^ 32) ≢ May) (let same : count ≡ i = omega (arith, below, least) in same) here

pub tests_same : (memory : Answers) (ws : List ByteWrite) → (written memory ws).may_write ≡ memory.may_write
tests_same memory [] = refl
tests_same memory (w ∷ ws) = tests_same (put_byte memory w) ws

may_still : (memory : Answers) (w : ByteWrite) (ws : List ByteWrite) → MayAll memory ws → MayAll (put_byte memory w) ws
may_still memory w [] may = tt
may_still memory w (v ∷ ws) may = (may.0, may_still memory w ws may.1)

read_beside : (memory : Answers) (w : ByteWrite) (a : ℕ) → a ≢ w.address → (put_byte memory w).read a ≡ memory.read a
read_beside memory w a apart =
    let other : (a == w.address) ≡ false = grind (arith, nat_tests) in ap (λ (b : Bool). read_by b w.byte (memory.read a)) other

read_stays : (memory : Answers) (ws : List ByteWrite) (a : ℕ) → MayAll memory ws → memory.may_write a ≢ May → (written memory ws).read a ≡ memory.read a
read_stays memory [] a may stays = refl
read_stays memory (w ∷ ws) a may stays =
    read_stays (put_byte memory w) ws a (may_still memory w ws may.1) stays
    ∙ read_beside memory w a (λ same. stays (ap memory.may_write same ∙ may.0))

may_of : (memory : Answers) (regs : Regs) → MayAll memory (writes_of (run memory (instruction regs)))
may_of memory regs = go (run memory (instruction regs)) refl
  where
    go : (outcome : Result Effect Refused) → run memory (instruction regs) ≡ outcome → MayAll memory (writes_of outcome)
    go (Ok effect) h = instruction_allowed memory regs effect h
    go (Err refused) h = tt

-- ---- Instructions that stand.

stands_after : (memory : Answers) (ws : List ByteWrite) (address : ℕ) (place : Option (Option Decoding)) → MayAll memory ws → StayFrom memory address
    → StandsAt memory address place → StandsAt (written memory ws) address place
stands_after memory ws address None may stay h = h
stands_after memory ws address (Some None) may stay h = h
stands_after memory ws address (Some (Some decoding)) may stay h = (
  λ i below. read_stays memory ws ((address + i) % 2 ^ 32) may (stay i (let few = h.1 in omega (arith, below, few))) ∙ h.0 i below,
  h.1,
)

stay_after : (memory : Answers) (ws : List ByteWrite) (address : ℕ) → StayFrom memory address → StayFrom (written memory ws) address
stay_after memory ws address stay = λ i below may. stay i below (ap (λ (test : ℕ → MayWrite). test ((address + i) % 2 ^ 32)) (sym (tests_same memory ws)) ∙ may)

-- they stand after an instruction
pub fixed_after : (memory : Answers) (fixed : FixedCode) (cache : DecodeCache) (regs : Regs) → AreFixed memory fixed cache
    → AreFixed (written memory (writes_of (run memory (instruction regs)))) fixed cache
fixed_after memory fixed cache regs h = λ address has.
    let ws : List ByteWrite = writes_of (run memory (instruction regs)) in
    let so = h address has in (
      stands_after memory ws address (slice_get cache.places (address % 512)) (may_of memory regs) so.1 so.0,
      stay_after memory ws address so.1,
    )

-- and where the cache changed in a place for which no address is remembered
pub fixed_elsewhere : (memory : Answers) (fixed : FixedCode) (old new : DecodeCache) (address : ℕ) → slice_get fixed.at (address % 512) ≡ Some None
    → IsSameElsewhere address old new → AreFixed memory fixed old → AreFixed memory fixed new
fixed_elsewhere memory fixed old new address gone same h = λ a has.
    let so = h a has in
    let apart : a % 512 ≢ address % 512 = λ e. (let clash : Some None ≡ Some (Some a) = sym gone ∙ ap (slice_get fixed.at) (sym e) ∙ has in absurd cc) in (
      subst (λ (o : Option (Option Decoding)). StandsAt memory a o) (sym (same (a % 512) apart)) so.0,
      so.1,
    )

-- the first of bytes that lie together
ahead_first : (memory : Answers) (address n : ℕ) (held : List ℕ) → AreAhead memory address held → AreAhead memory address (take n held)
ahead_first memory address n held ahead = λ i below.
    let long = length-take n held in
    ahead i (omega (arith, below, long)) ∙ ap bytes.Is (sym (get_or-take n held i 0 (omega (arith, below, long))))

-- an entry whose bytes are the first that lie together at an address stands there
pub stands_here : (memory : Answers) (places : List (Option Decoding)) (other : Option Decoding) (address : ℕ) (decoding : Decoding) (held : List ℕ)
    → address % 512 < length places → get_or places (address % 512) other ≡ Some decoding → decoding.bytes ≡ take 16 held → AreAhead memory address held
    → StandsAt memory address (slice_get places (address % 512))
stands_here memory places other address decoding held within there same ahead =
    let long = length-take 16 held in
    subst (λ (place : Option (Option Decoding)). StandsAt memory address place)
    (sym (slice_get-get_or places (address % 512) other within ∙ ap Some there))
    (subst (AreAhead memory address) (sym same) (ahead_first memory address 16 held ahead), (let few = ap length same in omega (arith, few, long)))

-- the instruction that stands at an address is fetched there
pub standing_fetched : (memory : Answers) (address : ℕ) (decoding : Decoding) → address < 2 ^ 32 → StandsAt memory address (Some (Some decoding))
    → run memory (fetch 20 address []) ≡ Ok decoding.instr
standing_fetched memory address decoding small h =
    let few = h.1 in
    fetched_first memory address (length decoding.bytes) decoding.bytes decoding.instr h.0 small (omega (arith, few))
    (ap decoded (take-length decoding.bytes) ∙ decoding.decodes)

-- and where the place of the address has it, whether or not it is known that some instruction is there
pub fixed_fetched : (memory : Answers) (places : List (Option Decoding)) (other : Option Decoding) (address : ℕ) (decoding : Decoding) → address < 2 ^ 32
    → address % 512 < length places → get_or places (address % 512) other ≡ Some decoding → StandsAt memory address (slice_get places (address % 512))
    → run memory (fetch 20 address []) ≡ Ok decoding.instr
fixed_fetched memory places other address decoding small within there stands =
    standing_fetched memory address decoding small
    (subst (λ (place : Option (Option Decoding)). StandsAt memory address place) (slice_get-get_or places (address % 512) other within ∙ ap Some there) stands)

-- so of what is found there
pub fixed_found : (memory : Answers) (places : List (Option Decoding)) (other : Option Decoding) (address : ℕ) (found : Option (Bor Decoding))
    → address < 2 ^ 32
    → address % 512 < length places → option_copied found ≡ get_or places (address % 512) other → StandsAt memory address (slice_get places (address % 512))
    → IfSome found (λ there. run memory (fetch 20 address []) ≡ Ok there.now.instr)
fixed_found memory places other address None small within there stands = tt
fixed_found memory places other address (Some b) small within there stands = fixed_fetched memory places other address b.now small within (sym there) stands
