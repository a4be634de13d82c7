-- The accesses of a computation, near a few starts.
use Rattle.std.proofs.Common.{◌≡◌, ℕ, suc, ◌+◌, ◌≤◌, List, [], ◌∷◌, ◌++◌, length, Result, Ok, Err, inl, inr, refl, sym, ap, ◌∙◌, subst, arith, length-append}
use Rattle.vm_facts.specs.Answers.{Answers}
use Rattle.vm_facts.specs.declared.memory.ByteRead.{ByteRead}
use Rattle.vm_facts.specs.declared.memory.ByteRead.TheVariants as bytes
use Rattle.vm_facts.specs.declared.memory.MayWrite.{MayWrite}
use Rattle.vm_facts.specs.declared.memory.MayWrite.TheVariants as tests
use Rattle.user_vax.specs.declared.refused.Refused.{Refused}
use Rattle.user_vax.specs.Program.{Program, Gives, Refuses, Reads, Tests, ◌>>=◌, run, after_read, after_test, ByteAccess, ReadOf, TestOf, accesses, rest_of_read, rest_of_test}
use Rattle.flat_laws.proofs.Near.{IsAt, IsNear, near_left, near_right}
use Rattle.flat_laws.proofs.Computations.{AllGives as Yields}

-- Whatever is read, each access is near this start, and what is given is so.
abbrev pub Within : {A : Type 0} → ℕ → (A → Type 0) → Program A → Type 0
Within start Q (Gives x) = Q x
Within start Q (Refuses signal) = Unit {0}
Within start Q (Reads address next) = IsAt start 1023 address × ((byte : ℕ) → Within start Q (next byte))
Within start Q (Tests address next) = IsAt start 1023 address × Within start Q next

pub within_bind : {A B : Type 0} (start : ℕ) (Q : A → Type 0) (R : B → Type 0) (p : Program A) (f : A → Program B) → Within start Q p
    → ((x : A) → Q x → Within start R (f x)) → Within start R (p >>= f)
within_bind start Q R (Gives x) f h k = k x h
within_bind start Q R (Refuses signal) f h k = tt
within_bind start Q R (Reads address next) f h k = (h.0, λ byte. within_bind start Q R (next byte) f (h.1 byte) k)
within_bind start Q R (Tests address next) f h k = (h.0, within_bind start Q R next f h.1 k)

pub yields_bind : {A B : Type 0} (Q : A → Type 0) (R : B → Type 0) (p : Program A) (f : A → Program B) → Yields Q p → ((x : A) → Q x → Yields R (f x))
    → Yields R (p >>= f)
yields_bind Q R (Gives x) f h k = k x h
yields_bind Q R (Refuses signal) f h k = tt
yields_bind Q R (Reads address next) f h k = λ byte. yields_bind Q R (next byte) f (h byte) k
yields_bind Q R (Tests address next) f h k = yields_bind Q R next f h k

pub yields_any : {A : Type 0} (p : Program A) → Yields (λ _. Unit {0}) p
yields_any (Reads address next) = λ byte. yields_any (next byte)
yields_any (Tests address next) = yields_any next
yields_any _ = tt

pub yields_ok : {A : Type 0} (memory : Answers) (Q : A → Type 0) (p : Program A) (x : A) → Yields Q p → run memory p ≡ Ok x → Q x
yields_ok memory Q (Gives y) x h e = let same : y ≡ x = cc in subst Q same h
yields_ok memory Q (Refuses signal) x h e = absurd cc
yields_ok {A = A} memory Q (Reads address next) x h e = go (λ byte k. yields_ok memory Q (next byte) x (h byte) k) (memory.read address) e
  where
    go : ((byte : ℕ) → run memory (next byte) ≡ Ok x → Q x) → (answer : ByteRead) → after_read answer address (λ byte. run memory (next byte)) ≡ Ok x → Q x
    go later (bytes.Is byte) k = later byte k
    go later bytes.Miss k = absurd cc
    go later bytes.Below k = absurd cc
    go later bytes.Outside k = absurd cc
yields_ok {A = A} memory Q (Tests address next) x h e = go (λ k. yields_ok memory Q next x h k) (memory.may_write address) e
  where
    go : (run memory next ≡ Ok x → Q x) → (answer : MayWrite) → after_test answer address (run memory next) ≡ Ok x → Q x
    go later tests.May k = later k
    go later tests.Miss k = absurd cc
    go later tests.Below k = absurd cc
    go later tests.Text k = absurd cc
    go later tests.Outside k = absurd cc

pub within_yields : {A : Type 0} (start : ℕ) (Q : A → Type 0) (p : Program A) → Within start Q p → Yields Q p
within_yields start Q (Gives x) h = h
within_yields start Q (Refuses signal) h = tt
within_yields start Q (Reads address next) h = λ byte. within_yields start Q (next byte) (h.1 byte)
within_yields start Q (Tests address next) h = within_yields start Q next h.1

-- The accesses of a sequence.

abbrev accesses_then : {A B : Type 0} → Answers → Result A Refused → (A → Program B) → List ByteAccess
accesses_then memory (Ok x) f = accesses memory (f x)
accesses_then memory (Err refused) f = []

accesses_bind : {A B : Type 0} (memory : Answers) (p : Program A) (f : A → Program B)
    → accesses memory (p >>= f) ≡ accesses memory p ++ accesses_then memory (run memory p) f
accesses_bind memory (Reads address next) f = ap (λ (list : List ByteAccess). ReadOf address ∷ list) (go (λ byte. accesses_bind memory (next byte) f) (memory.read address))
  where
    go : ((byte : ℕ) → accesses memory (next byte >>= f) ≡ accesses memory (next byte) ++ accesses_then memory (run memory (next byte)) f) → (answer : ByteRead) → rest_of_read answer
        (λ byte. accesses memory (next byte >>= f)) ≡ rest_of_read answer (λ byte. accesses memory (next byte)) ++ accesses_then memory (after_read answer address (λ byte. run memory (next byte))) f
    go later (bytes.Is byte) = later byte
    go later bytes.Miss = refl
    go later bytes.Below = refl
    go later bytes.Outside = refl
accesses_bind memory (Tests address next) f = ap (λ (list : List ByteAccess). TestOf address ∷ list) (go (accesses_bind memory next f) (memory.may_write address))
  where
    go : accesses memory (next >>= f) ≡ accesses memory next ++ accesses_then memory (run memory next) f → (answer : MayWrite)
        → rest_of_test answer (accesses memory (next >>= f)) ≡ rest_of_test answer (accesses memory next) ++ accesses_then memory (after_test answer address (run memory next)) f
    go later tests.May = later
    go later tests.Miss = refl
    go later tests.Below = refl
    go later tests.Text = refl
    go later tests.Outside = refl
accesses_bind memory _ f = refl

abbrev pub address_of_access : ByteAccess → ℕ
address_of_access (ReadOf address) = address
address_of_access (TestOf address) = address

abbrev pub AreNear : List ℕ → List ByteAccess → Type 0
AreNear starts [] = Unit {0}
AreNear starts (access ∷ list) = IsNear starts (address_of_access access) × AreNear starts list

pub all_near_append : (starts : List ℕ) (xs ys : List ByteAccess) → AreNear starts xs → AreNear starts ys → AreNear starts (xs ++ ys)
all_near_append starts [] ys h k = k
all_near_append starts (x ∷ xs) ys h k = (h.0, all_near_append starts xs ys h.1 k)

-- near more starts
pub all_near_more : (some more : List ℕ) → ((x : ℕ) → IsNear some x → IsNear more x) → (list : List ByteAccess) → AreNear some list → AreNear more list
all_near_more some more f [] h = tt
all_near_more some more f (x ∷ list) h = (f (address_of_access x) h.0, all_near_more some more f list h.1)

-- Over a memory each access is near a base or one of so many starts.
pub record Covered {A : Type 0} (memory : Answers) (base most : ℕ) (p : Program A) : Type 0 where
  pub starts : List ℕ
  pub few : length starts ≤ most
  pub near : AreNear (base ∷ starts) (accesses memory p)

within_accesses : {A : Type 0} (memory : Answers) (start : ℕ) (more : List ℕ) (Q : A → Type 0) (p : Program A) → Within start Q p
    → AreNear (start ∷ more) (accesses memory p)
within_accesses memory start more Q (Reads address next) h = (inl h.0, go (λ byte. within_accesses memory start more Q (next byte) (h.1 byte)) (memory.read address))
  where
    go : ((byte : ℕ) → AreNear (start ∷ more) (accesses memory (next byte))) → (answer : ByteRead) → AreNear (start ∷ more) (rest_of_read answer (λ byte. accesses memory (next byte)))
    go later (bytes.Is byte) = later byte
    go later bytes.Miss = tt
    go later bytes.Below = tt
    go later bytes.Outside = tt
within_accesses memory start more Q (Tests address next) h = (inl h.0, go (within_accesses memory start more Q next h.1) (memory.may_write address))
  where
    go : AreNear (start ∷ more) (accesses memory next) → (answer : MayWrite) → AreNear (start ∷ more) (rest_of_test answer (accesses memory next))
    go later tests.May = later
    go later tests.Miss = tt
    go later tests.Below = tt
    go later tests.Text = tt
    go later tests.Outside = tt
within_accesses memory start more Q _ h = tt

-- near the base alone
pub within_base : {A : Type 0} (memory : Answers) (base : ℕ) (Q : A → Type 0) (p : Program A) → Within base Q p → Covered memory base 0 p
within_base memory base Q p h = record { starts = []; few = omega arith; near = within_accesses memory base [] Q p h }

-- another base costs a start
pub covered_rebased : {A : Type 0} (memory : Answers) (base other most : ℕ) (p : Program A) → Covered memory other most p → Covered memory base (suc most) p
covered_rebased memory base other most p h = record {
  starts = other ∷ h.starts;
  few = (let l = h.few in omega arith);
  near = all_near_more (other ∷ h.starts) (base ∷ other ∷ h.starts) (λ x k. inr k) (accesses memory p) h.near;
}

pub within_one : {A : Type 0} (memory : Answers) (base start : ℕ) (Q : A → Type 0) (p : Program A) → Within start Q p → Covered memory base 1 p
within_one memory base start Q p h = covered_rebased memory base start 0 p (within_base memory start Q p h)

pub covered_more : {A : Type 0} (memory : Answers) (base most more : ℕ) (p : Program A) → most ≤ more → Covered memory base most p → Covered memory base more p
covered_more memory base most more p l h = record { starts = h.starts; few = (let k = h.few in omega arith); near = h.near }

pub covered_gives : {A : Type 0} (memory : Answers) (base most : ℕ) (x : A) → Covered memory base most (Gives x)
covered_gives memory base most x = record { starts = []; few = omega arith; near = tt }

pub covered_refuses : {A : Type 0} (memory : Answers) (base most signal : ℕ) → Covered {A = A} memory base most (Refuses signal)
covered_refuses memory base most signal = record { starts = []; few = omega arith; near = tt }

-- near the base or one of the last starts
pub behind : (base : ℕ) (some more : List ℕ) (y : ℕ) → IsNear (base ∷ more) y → IsNear (base ∷ (some ++ more)) y
behind base some more y (inl n) = inl n
behind base some more y (inr n) = inr (near_right some more y n)

pub covered_along : {A B : Type 0} (memory : Answers) (base a b : ℕ) (p : Program A) (f : A → Program B) (x : A) → run memory p ≡ Ok x
    → Covered memory base a p → Covered memory base b (f x) → Covered memory base (a + b) (p >>= f)
covered_along {A = A} memory base a b p f x e h last = record {
  starts = h.starts ++ last.starts;
  few = (let l = h.few in let m = last.few in let n = length-append h.starts last.starts in omega arith);
  near = subst (λ (list : List ByteAccess). AreNear (base ∷ (h.starts ++ last.starts)) list)
      (sym (accesses_bind memory p f ∙ ap (λ (r : Result A Refused). accesses memory p ++ accesses_then memory r f) e))
      (all_near_append (base ∷ (h.starts ++ last.starts)) (accesses memory p) (accesses memory (f x))
      (all_near_more (base ∷ h.starts) (base ∷ (h.starts ++ last.starts)) (λ y n. near_left (base ∷ h.starts) last.starts y n) (accesses memory p) h.near)
      (all_near_more (base ∷ last.starts) (base ∷ (h.starts ++ last.starts)) (behind base h.starts last.starts) (accesses memory (f x)) last.near));
}

covered_refused : {A B : Type 0} (memory : Answers) (base most : ℕ) (p : Program A) (f : A → Program B) (refused : Refused)
    → run memory p ≡ Err refused → Covered memory base most p → Covered memory base most (p >>= f)
covered_refused {A = A} memory base most p f refused e h = record {
  starts = h.starts;
  few = h.few;
  near = subst (λ (list : List ByteAccess). AreNear (base ∷ h.starts) list)
      (sym (accesses_bind memory p f ∙ ap (λ (r : Result A Refused). accesses memory p ++ accesses_then memory r f) e))
      (all_near_append (base ∷ h.starts) (accesses memory p) [] h.near tt);
}

pub covered_bind : {A B : Type 0} (memory : Answers) (base a b : ℕ) (p : Program A) (f : A → Program B) → Covered memory base a p
    → ((x : A) → run memory p ≡ Ok x → Covered memory base b (f x)) → Covered memory base (a + b) (p >>= f)
covered_bind {A = A} {B = B} memory base a b p f h k = go (run memory p) refl
  where
    go : (result : Result A Refused) → run memory p ≡ result → Covered memory base (a + b) (p >>= f)
    go (Ok x) e = covered_along memory base a b p f x e h (k x e)
    go (Err refused) e = covered_more memory base a (a + b) (p >>= f) (omega arith) (covered_refused memory base a p f refused e h)

-- a part near the base, and what follows what it gives
pub covered_behind : {A B : Type 0} (memory : Answers) (base b : ℕ) (Q : A → Type 0) (p : Program A) (f : A → Program B) → Within base Q p
    → ((x : A) → Q x → Covered memory base b (f x)) → Covered memory base b (p >>= f)
covered_behind memory base b Q p f h k =
    covered_more memory base (0 + b) b (p >>= f) (omega arith) (covered_bind memory base 0 b p f (within_base memory base Q p h) (λ x e. k x (yields_ok memory Q p x (within_yields base Q p h) e)))
