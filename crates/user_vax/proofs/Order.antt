-- The laws of Laws, by induction on the computation.
use Rattle.std.proofs.Common.{◌≡◌, ℕ, Bool, true, false, List, [], ◌∷◌, ◌++◌, None, Result, Ok, Err, refl, ap, subst, inl, inr, ◌⊎◌}
use Rattle.vm_facts.specs.Answers.{Answers}
use Rattle.vm_facts.specs.declared.memory.ByteRead.TheVariants as bytes
use Rattle.vm_facts.specs.declared.memory.MayWrite.TheVariants as tests
use Rattle.user_vax.specs.declared.refused.Refused.{Refused}
use Rattle.user_vax.specs.declared.refused.Refused.TheVariants.{Miss, Below, Signal}
use Rattle.user_vax.specs.Program.{Program, Gives, Refuses, Reads, Tests, run, after_read, after_test, ByteAccess, ReadOf, TestOf, accesses, rest_of_read, rest_of_test}
use Rattle.user_vax.specs.Signals.{sigbus, sigsegv}
use Rattle.user_vax.specs.Laws.{refusal, read_refusal, test_refusal, AllGranted, EndsRefused, KeepsOrder, Covers, SameOrMisses}

abbrev NotByAccess : {A : Type 0} → Result A Refused → Type 0
NotByAccess (Ok x) = Unit {0}
NotByAccess (Err (Signal number)) = Unit {0}
NotByAccess (Err (Miss address write)) = ⊥
NotByAccess (Err (Below address)) = ⊥

-- either each access is granted, or the last one alone is refused, and so is the whole
abbrev Ends : {A : Type 0} → Answers → List ByteAccess → Result A Refused → Type 0
Ends memory list result =
    (AllGranted memory list × NotByAccess result)
    ⊎ ((refused : Refused) × (result ≡ Err refused) × EndsRefused memory list refused)

after_one : {A : Type 0} (memory : Answers) (access : ByteAccess) (list : List ByteAccess) (result : Result A Refused) → refusal memory access ≡ None
    → Ends memory list result → Ends memory (access ∷ list) result
after_one memory access list result here (inl all) = inl ((here, all.0), all.1)
after_one memory access list result here (inr last) =
    inr (last.0, last.1, (access ∷ last.2.0, last.2.1, ap (λ (l : List ByteAccess). access ∷ l) last.2.2, (here, last.2.3), last.2.4))

ends : {A : Type 0} (memory : Answers) (p : Program A) → Ends memory (accesses memory p) (run memory p)
ends memory (Gives x) = inl (tt, tt)
ends memory (Refuses signal) = inl (tt, tt)
ends memory (Reads address next) =
    (elim (memory.read address) as (λ answer. memory.read address ≡ answer
    → Ends memory (ReadOf address ∷ rest_of_read answer (λ byte. accesses memory (next byte))) (after_read answer address (λ byte. run memory (next byte)))) [
      | bytes.Is byte ↦ λ e. after_one memory (ReadOf address) (accesses memory (next byte)) (run memory (next byte)) (ap (λ answer. read_refusal answer address) e) (ends memory (next byte))
      | bytes.Miss ↦ λ e. inr (Miss address false, refl, ([], ReadOf address, refl, tt, ap (λ answer. read_refusal answer address) e))
      | bytes.Below ↦ λ e. inr (Below address, refl, ([], ReadOf address, refl, tt, ap (λ answer. read_refusal answer address) e))
      | bytes.Outside ↦ λ e. inr (Signal sigsegv, refl, ([], ReadOf address, refl, tt, ap (λ answer. read_refusal answer address) e))
    ]) refl
ends memory (Tests address next) =
    (elim (memory.may_write address) as (λ answer. memory.may_write address ≡ answer
    → Ends memory (TestOf address ∷ rest_of_test answer (accesses memory next)) (after_test answer address (run memory next))) [
      | tests.May ↦ λ e. after_one memory (TestOf address) (accesses memory next) (run memory next) (ap (λ answer. test_refusal answer address) e) (ends memory next)
      | tests.Miss ↦ λ e. inr (Miss address true, refl, ([], TestOf address, refl, tt, ap (λ answer. test_refusal answer address) e))
      | tests.Below ↦ λ e. inr (Below address, refl, ([], TestOf address, refl, tt, ap (λ answer. test_refusal answer address) e))
      | tests.Text ↦ λ e. inr (Signal sigbus, refl, ([], TestOf address, refl, tt, ap (λ answer. test_refusal answer address) e))
      | tests.Outside ↦ λ e. inr (Signal sigsegv, refl, ([], TestOf address, refl, tt, ap (λ answer. test_refusal answer address) e))
    ]) refl

gives_of : {A : Type 0} (memory : Answers) (list : List ByteAccess) (result : Result A Refused) (x : A) → Ends memory list result → result ≡ Ok x
    → AllGranted memory list
gives_of memory list result x (inl all) h = all.0
gives_of memory list result x (inr last) h = let e = last.1 in absurd (cc)

misses_of : {A : Type 0} (memory : Answers) (list : List ByteAccess) (result : Result A Refused) (address : ℕ) (write : Bool) → Ends memory list result
    → result ≡ Err (Miss address write) → EndsRefused memory list (Miss address write)
misses_of {A = A} memory list result address write (inl all) h = absurd (subst (λ (r : Result A Refused). NotByAccess r) h all.1)
misses_of memory list result address write (inr last) h =
    let e = last.1 in
    let same : last.0 ≡ Miss address write = cc in
    subst (λ (refused : Refused). EndsRefused memory list refused) same last.2

falls_of : {A : Type 0} (memory : Answers) (list : List ByteAccess) (result : Result A Refused) (address : ℕ) → Ends memory list result
    → result ≡ Err (Below address) → EndsRefused memory list (Below address)
falls_of {A = A} memory list result address (inl all) h = absurd (subst (λ (r : Result A Refused). NotByAccess r) h all.1)
falls_of memory list result address (inr last) h =
    let e = last.1 in
    let same : last.0 ≡ Below address = cc in
    subst (λ (refused : Refused). EndsRefused memory list refused) same last.2

pub keeps_order : {A : Type 0} (memory : Answers) (p : Program A) → KeepsOrder memory p
keeps_order memory p = record {
  gives = λ x h. gives_of memory (accesses memory p) (run memory p) x (ends memory p) h;
  misses = λ address write h. misses_of memory (accesses memory p) (run memory p) address write (ends memory p) h;
  falls = λ address h. falls_of memory (accesses memory p) (run memory p) address (ends memory p) h;
}

-- one access over two memories, and what follows it
one_same : {A : Type 0} (access : ByteAccess) (some_list other_list : List ByteAccess) (some other : Result A Refused)
    → (some ≡ other) × (some_list ≡ other_list)
    ⊎ ((address : ℕ) × (write : Bool) × (some ≡ Err (Miss address write)) × (more : List ByteAccess) × (other_list ≡ some_list ++ more))
    → ((some ≡ other) × ((access ∷ some_list) ≡ (access ∷ other_list)))
    ⊎ ((address : ℕ) × (write : Bool) × (some ≡ Err (Miss address write)) × (more : List ByteAccess) × ((access ∷ other_list) ≡ ((access ∷ some_list) ++ more)))
one_same access some_list other_list some other (inl same) = inl (same.0, ap (λ (l : List ByteAccess). access ∷ l) same.1)
one_same access some_list other_list some other (inr miss) =
    inr (miss.0, miss.1, miss.2, miss.3, ap (λ (l : List ByteAccess). access ∷ l) miss.4)

pub same_or_misses : {A : Type 0} (some other : Answers) (p : Program A) → Covers some other → SameOrMisses some other p
same_or_misses some other (Gives x) h = inl (refl, refl)
same_or_misses some other (Refuses signal) h = inl (refl, refl)
same_or_misses some other (Reads address next) h = elim (h.reads address) [
  | inl miss ↦ rw miss (inr (address, false, refl, rest_of_read (other.read address) (λ byte. accesses other (next byte)), refl))
  | inr same ↦ rw same (
      elim (other.read address) as (λ answer.
      ((after_read answer address (λ byte. run some (next byte)) ≡ after_read answer address (λ byte. run other (next byte)))
      × ((ReadOf address ∷ rest_of_read answer (λ byte. accesses some (next byte))) ≡ (ReadOf address ∷ rest_of_read answer (λ byte. accesses other (next byte)))))
      ⊎ ((a : ℕ) × (w : Bool) × (after_read answer address (λ byte. run some (next byte)) ≡ Err (Miss a w)) × (more : List ByteAccess)
      × ((ReadOf address ∷ rest_of_read answer (λ byte. accesses other (next byte))) ≡ ((ReadOf address ∷ rest_of_read answer (λ byte. accesses some (next byte))) ++ more)))) [
        | bytes.Is byte ↦ one_same (ReadOf address) (accesses some (next byte)) (accesses other (next byte)) (run some (next byte)) (run other (next byte)) (same_or_misses some other (next byte) h)
        | bytes.Miss ↦ inl (refl, refl)
        | bytes.Below ↦ inl (refl, refl)
        | bytes.Outside ↦ inl (refl, refl)
      ])
]
same_or_misses some other (Tests address next) h = elim (h.tests address) [
  | inl miss ↦ rw miss (inr (address, true, refl, rest_of_test (other.may_write address) (accesses other next), refl))
  | inr same ↦ rw same (
      elim (other.may_write address) as (λ answer.
      ((after_test answer address (run some next) ≡ after_test answer address (run other next))
      × ((TestOf address ∷ rest_of_test answer (accesses some next)) ≡ (TestOf address ∷ rest_of_test answer (accesses other next))))
      ⊎ ((a : ℕ) × (w : Bool) × (after_test answer address (run some next) ≡ Err (Miss a w)) × (more : List ByteAccess)
      × ((TestOf address ∷ rest_of_test answer (accesses other next)) ≡ ((TestOf address ∷ rest_of_test answer (accesses some next)) ++ more)))) [
        | tests.May ↦ one_same (TestOf address) (accesses some next) (accesses other next) (run some next) (run other next) (same_or_misses some other next h)
        | tests.Miss ↦ inl (refl, refl)
        | tests.Below ↦ inl (refl, refl)
        | tests.Text ↦ inl (refl, refl)
        | tests.Outside ↦ inl (refl, refl)
      ])
]
