-- Laws of running a program.
use Rattle.std.proofs.Common.{◌≡◌, ◌∙◌, Result, Ok, Err, refl, sym}
use Rattle.vm_facts.specs.Answers.{Answers}
use Rattle.vm_facts.specs.declared.memory.ByteRead.TheVariants as bytes
use Rattle.vm_facts.specs.declared.memory.MayWrite.TheVariants as tests
use Rattle.user_vax.specs.declared.refused.Refused.{Refused}
use Rattle.user_vax.specs.Program.{Program, Gives, Refuses, Reads, Tests, ◌>>=◌, run, after_read, after_test}

-- one result after another
abbrev pub then : {A B : Type 0} → Result A Refused → (A → Result B Refused) → Result B Refused
then (Ok x) f = f x
then (Err e) f = Err e

pub run_bind : {A B : Type 0} (memory : Answers) (p : Program A) (f : A → Program B) → run memory (p >>= f) ≡ then (run memory p) (λ x. run memory (f x))
run_bind memory (Gives x) f = refl
run_bind memory (Refuses signal) f = refl
run_bind memory (Reads address next) f =
    elim (memory.read address) as (λ answer. after_read answer address (λ byte. run memory (next byte >>= f))
    ≡ then (after_read answer address (λ byte. run memory (next byte))) (λ x. run memory (f x))) [
      | bytes.Is byte ↦ run_bind memory (next byte) f
      | bytes.Miss ↦ refl
      | bytes.Below ↦ refl
      | bytes.Outside ↦ refl
    ]
run_bind memory (Tests address next) f =
    elim (memory.may_write address) as (λ answer. after_test answer address (run memory (next >>= f)) ≡ then (after_test answer address (run memory next)) (λ x. run memory (f x))) [
      | tests.May ↦ run_bind memory next f
      | tests.Miss ↦ refl
      | tests.Below ↦ refl
      | tests.Text ↦ refl
      | tests.Outside ↦ refl
    ]

pub then_ok : {A B : Type 0} (r : Result A Refused) (next : A → Result B Refused) (y : B) → then r next ≡ Ok y → (x : A) × (r ≡ Ok x) × (next x ≡ Ok y)
then_ok (Ok x) next y h = (x, refl, h)
then_ok (Err e) next y h = absurd (cc)

-- a sequence that gives something gave something at each part
pub ok_of_bind : {A B : Type 0} (memory : Answers) (p : Program A) (f : A → Program B) (y : B) → run memory (p >>= f) ≡ Ok y
    → (x : A) × (run memory p ≡ Ok x) × (run memory (f x) ≡ Ok y)
ok_of_bind memory p f y h = then_ok (run memory p) (λ x. run memory (f x)) y (sym (run_bind memory p f) ∙ h)
