-- An image by its name, and what the calls read.
use Rattle.std.proofs.Common.{◌≡◌, ℕ, zero, suc, ◌-◌, ◌*◌, ◌%◌, ◌≤◌, Bool, true, false, List, [], ◌∷◌, get_or, Option, Some, None, Result, Ok, Err, refl, sym, ap, ◌∙◌, subst, arith}
use Rattle.std.specs.Prelude.{string_bytes, bytes_eq, slice_get, nat_le, IfOk}
use Rattle.std.proofs.lemmas.Option.{same_Some}
use Rattle.flat_state.specs.Flat.{NamedImage, start_regs, start_page}
use Rattle.flat_state.specs.declared.change.Change.TheVariants.{Exec}
use Rattle.flat_state.specs.Space.{Space}
use Rattle.vm_facts.specs.Answers.{Answers}
use Rattle.vm_facts.specs.declared.regs.Regs.{Regs}
use Rattle.user_vax.specs.Program.{Program, Gives, run, ◌>>=◌}
use Rattle.user_vax.specs.declared.refused.Refused.{Refused}
use Rattle.vm_facts.specs.declared.stop.NoMemory.{NoMemory}
use Rattle.user_vax.proofs.Runs.{then, run_bind}
use Rattle.flat_model.specs.declared.calls.Reply.{Reply}
use Rattle.flat_model.specs.declared.calls.Reply.TheVariants.{Fails, Does, Exits}
use Rattle.flat_model.specs.Calls.{numbered_by, image_named, path_image, argument, string_from, string_limit, execve_of, arguments_at, starts, exit_reply, break_reply, break_by, pages_up_to, stack_pages_of, data_limit, refusal_of}
use Rattle.machine_state.specs.Named.{Named}
use Rattle.call_reads.specs.Reading.{AreShown, number_by, number_from, IsPathImage, execve_from}

-- the image that has the number
record IsFrom (n : ℕ) (images : List NamedImage) (shown : List Named) (name : List ℕ) (number : ℕ) : Type 0 where
  image : NamedImage
  there : Named
  least : n ≤ number
  found : image_named n images name ≡ Some (number, image)
  at : slice_get shown (number - n) ≡ Some there
  facts : image.image.facts ≡ there.facts

abbrev Finds : ℕ → List NamedImage → List Named → List ℕ → Option ℕ → Type 0
Finds n images shown name None = image_named n images name ≡ None
Finds n images shown name (Some number) = IsFrom n images shown name number

finds : (n : ℕ) (images : List NamedImage) (shown : List Named) (name : List ℕ) → AreShown images shown → Finds n images shown name (number_from n shown name)
unfolding image_named
finds n [] [] name h = refl
finds n [] (s ∷ shown) name h = absurd h
finds n (x ∷ images) [] name h = absurd h
finds n (x ∷ images) (s ∷ shown) name h = go (bytes_eq (string_bytes s.name) name) refl (finds (suc n) images shown name h.2)
  where
    same : bytes_eq x.name name ≡ bytes_eq (string_bytes s.name) name
    same = ap (λ (bs : List ℕ). bytes_eq bs name) h.0

    passed : (o : Option ℕ) → bytes_eq (string_bytes s.name) name ≡ false → Finds (suc n) images shown name o → Finds n (x ∷ images) (s ∷ shown) name o
    passed None b f = ap (λ (t : Bool). numbered_by t n x (image_named (suc n) images name)) (same ∙ b) ∙ f
    passed (Some number) b f = record {
      image = f.image;
      there = f.there;
      least = let l = f.least in omega arith;
      found = ap (λ (t : Bool). numbered_by t n x (image_named (suc n) images name)) (same ∙ b) ∙ f.found;
      at =
          let l = f.least in
          let e : number - n ≡ suc (number - suc n) = omega arith in
          ap (slice_get (s ∷ shown)) e ∙ f.at;
      facts = f.facts;
    }

    go : (b : Bool) → bytes_eq (string_bytes s.name) name ≡ b → Finds (suc n) images shown name (number_from (suc n) shown name)
        → Finds n (x ∷ images) (s ∷ shown) name (number_by b n (number_from (suc n) shown name))
    go true b f = record {
      image = x;
      there = s;
      least = omega arith;
      found = ap (λ (t : Bool). numbered_by t n x (image_named (suc n) images name)) (same ∙ b);
      at = let e : n - n ≡ 0 = omega arith in ap (slice_get (s ∷ shown)) e;
      facts = h.1;
    }
    go false b f = passed (number_from (suc n) shown name) b f

pub image_is : (images : List NamedImage) (shown : List Named) (name : List ℕ) (o : Option ℕ) → o ≡ number_from 1 shown name → AreShown images shown
    → IsPathImage images shown (Ok (Some name)) (Ok o)
image_is images shown name o e h = go o (subst (λ (x : Option ℕ). Finds 1 images shown name x) (sym e) (finds 1 images shown name h))
  where
    go : (o : Option ℕ) → Finds 1 images shown name o → IsPathImage images shown (Ok (Some name)) (Ok o)
    go None f = f
    go (Some number) f = record { image = f.image; there = f.there; some = let l = f.least in omega arith; found = f.found; at = f.at; facts = f.facts }

-- What the calls read.

pub refused_then : {A B : Type 0} (memory : Answers) (p : Program A) (f : A → B) → refusal_of (run memory (p >>= λ x. Gives (f x))) ≡ refusal_of (run memory p)
refused_then {A = A} memory p f = ap refusal_of (run_bind memory p (λ x. Gives (f x))) ∙ go (run memory p)
  where
    go : (r : Result A Refused) → refusal_of (then r (λ x. run memory (Gives (f x)))) ≡ refusal_of r
    go (Ok x) = refl
    go (Err e) = refl

pub exit_reads : (memory : Answers) (regs : Regs) → refusal_of (run memory (exit_reply regs)) ≡ refusal_of (run memory (argument regs 1))
unfolding exit_reply
exit_reads memory regs = refused_then memory (argument regs 1) (λ code. Exits (code % 256 * 256))

pub break_reads : (memory : Answers) (s : Space) (regs : Regs) → refusal_of (run memory (break_reply s regs)) ≡ refusal_of (run memory (argument regs 1))
unfolding break_reply
break_reads memory s regs = refused_then memory (argument regs 1) (λ address. break_by (nat_le (pages_up_to s address) data_limit) regs (pages_up_to s address) (stack_pages_of s))

-- what it comes to by the number of the path's image
abbrev pub ExecveBy : Answers → List NamedImage → List Named → ℕ → Result (Option ℕ) Refused → Result Reply Refused → Type 0
ExecveBy memory images shown argv (Err refused) asked = asked ≡ Err refused
ExecveBy memory images shown argv (Ok None) asked = asked ≡ Ok (Fails 2)
ExecveBy memory images shown argv (Ok (Some number)) asked =
    (x : NamedImage) (s : Named) → slice_get shown (number - 1) ≡ Some s → x.image.facts ≡ s.facts → asked ≡ run memory (execve_of argv (Some (number, x)))

pub execve_is : (memory : Answers) (images : List NamedImage) (shown : List Named) (path argv : ℕ) (p : Result (Option ℕ) Refused)
    (asked : Result Reply Refused)
    → IsPathImage images shown (run memory (string_from string_limit path)) p → ExecveBy memory images shown argv p asked
    → asked ≡ run memory (execve_from images path argv)
execve_is memory images shown path argv p asked h x =
    go (run memory (string_from string_limit path)) p h x ∙ sym (run_bind memory (string_from string_limit path) (λ name. execve_of argv (path_image images name)))
  where
    go : (r : Result (Option (List ℕ)) Refused) (p : Result (Option ℕ) Refused) → IsPathImage images shown r p → ExecveBy memory images shown argv p asked
        → asked ≡ then r (λ name. run memory (execve_of argv (path_image images name)))
    go (Err refused) (Err other) h x = let same : other ≡ refused = cc in x ∙ ap (λ (e : Refused). Err e) same
    go (Err refused) (Ok o) h x = absurd cc
    go (Ok name) (Err refused) h x = absurd h
    go (Ok name) (Ok None) h x = x ∙ ap (λ (o : Option (ℕ × NamedImage)). run memory (execve_of argv o)) (sym h)
    go (Ok name) (Ok (Some number)) h x =
        x h.image h.there h.at h.facts ∙ ap (λ (o : Option (ℕ × NamedImage)). run memory (execve_of argv o)) (sym h.found)

pub got : (shown : List Named) (k : ℕ) (x s : Named) → slice_get shown k ≡ Some s → get_or shown k x ≡ s
got [] k x s e = absurd cc
got (y ∷ ys) zero x s e = same_Some y s e
got (y ∷ ys) (suc k) x s e = got ys k x s e

pub starts_is : (memory : Answers) (argv image entry : ℕ) (x : NamedImage) (arguments : List (List ℕ)) (regs : Regs) (top : List ℕ)
    → Ok (Some arguments) ≡ run memory (arguments_at argv) → regs ≡ start_regs entry arguments → top ≡ start_page arguments → x.image.facts.entry ≡ entry
    → (let r : Result Reply Refused = Ok (Does regs (Exec image top)) in r) ≡ run memory (execve_of argv (Some (image, x)))
starts_is memory argv image entry x arguments regs top e r t is =
    ap (λ (y : Regs). Ok (Does y (Exec image top))) (r ∙ ap (λ (n : ℕ). start_regs n arguments) (sym is))
    ∙ ap (λ (y : List ℕ). Ok (Does (start_regs x.image.facts.entry arguments) (Exec image y))) t
    ∙ sym (
    run_bind memory (arguments_at argv) (λ a. Gives (starts (image, x) a))
    ∙ ap (λ (a : Result (Option (List (List ℕ))) Refused). then a (λ b. run memory (Gives (starts (image, x) b)))) (sym e)
    )

-- so it is where the image starts
pub started : (memory : Answers) (images : List NamedImage) (shown : List Named) (path argv number : ℕ) (p : Result (Option ℕ) Refused)
    (r : Result (Result Reply Refused) NoMemory)
    → p ≡ Ok (Some number) → IsPathImage images shown (run memory (string_from string_limit path)) p
    → ((x : NamedImage) (s : Named) → slice_get shown (number - 1) ≡ Some s → x.image.facts ≡ s.facts
    → IfOk r (λ asked. asked ≡ run memory (execve_of argv (Some (number, x)))))
    → IfOk r (λ asked. asked ≡ run memory (execve_from images path argv))
started memory images shown path argv number p (Ok asked) e h f =
    execve_is memory images shown path argv p asked h (subst (λ (q : Result (Option ℕ) Refused). ExecveBy memory images shown argv q asked) (sym e) f)
started memory images shown path argv number p (Err n) e h f = tt
