-- Entries that have the same numbers and bytes are one.
use Rattle.std.proofs.Common.{◌≡◌, ◌↔◌, ℕ, ◌==◌, Bool, true, ◌&&◌, List, bytes_eq, refl, sym, ap, ◌∙◌, subst}
use Rattle.std.proofs.lemmas.Slice.Eq.{bytes_eq-Decides}
use Rattle.std.proofs.lemmas.Bool.{eq-eqb, eqb-true, and_parts}
use Rattle.std.specs.Cmp.Derive.{both_true}
use Rattle.vm_facts.specs.declared.page.Page.{Page}
use Rattle.vm_facts.specs.declared.entry.Entry.{Entry}
use Rattle.vm_facts.specs.declared.entry.Entry.TheVariants as entries
use Rattle.flat_state.specs.PageNames.{same_page}
use Rattle.flat_state.proofs.PageNames.{same_page_is, same_page_self}
use Rattle.flat_model.specs.Run.{same_carry}
use Rattle.run_model.proofs.Acting.{carry_self}
use Rattle.flat_laws.proofs.Entries.{carry_is}
use Rattle.grade_command.specs.Same.{is_one_entry}

two : (make : ℕ → ℕ → Entry) (a b n m : ℕ) → (a == b && n == m) ≡ true → make a n ≡ make b m
two make a b n m h =
    let parts = and_parts (a == b) (n == m) h in
    ap (λ (x : ℕ). make x n) (eqb-true a b parts.0) ∙ ap (λ (x : ℕ). make b x) (eqb-true n m parts.1)

are_one : (e f : Entry) → is_one_entry e f ≡ true → e ≡ f
are_one (entries.Event a) (entries.Event b) h = ap entries.Event (eqb-true a b h)
are_one (entries.Turn a) (entries.Turn b) h = ap entries.Turn (eqb-true a b h)
are_one (entries.Ran a n) (entries.Ran b m) h = two entries.Ran a b n m h
are_one (entries.Out a xs) (entries.Out b ys) h =
    let parts = and_parts (a == b) (bytes_eq xs ys) h in
    ap (λ (x : ℕ). entries.Out x xs) (eqb-true a b parts.0) ∙ ap (λ (x : List ℕ). entries.Out b x) ((bytes_eq-Decides xs ys).0 parts.1)
are_one (entries.Grew a n) (entries.Grew b m) h = two entries.Grew a b n m h
are_one (entries.Call a n c r0 r1) (entries.Call b m d s0 s1) h =
    let p = and_parts (a == b) (n == m && (same_carry c d && (r0 == s0 && r1 == s1))) h in
    let q = and_parts (n == m) (same_carry c d && (r0 == s0 && r1 == s1)) p.1 in
    let r = and_parts (same_carry c d) (r0 == s0 && r1 == s1) q.1 in
    two (λ x y. entries.Call x y c r0 r1) a b n m (both_true p.0 q.0) ∙ ap (λ (x : Bool). entries.Call b m x r0 r1) (carry_is c d r.0)
    ∙ two (λ x y. entries.Call b m d x y) r0 s0 r1 s1 r.1
are_one (entries.Refused a) (entries.Refused b) h = ap entries.Refused (eqb-true a b h)
are_one (entries.Sleeps a) (entries.Sleeps b) h = ap entries.Sleeps (eqb-true a b h)
are_one (entries.Ended a n) (entries.Ended b m) h = two entries.Ended a b n m h
are_one (entries.Zero q) (entries.Zero r) h = ap entries.Zero (same_page_is q r h)
are_one (entries.Get q lo n) (entries.Get r l m) h =
    let parts = and_parts (same_page q r) (lo == l && n == m) h in
    ap (λ (x : Page). entries.Get x lo n) (same_page_is q r parts.0) ∙ two (λ x y. entries.Get r x y) lo l n m parts.1
are_one (entries.Copy q) (entries.Copy r) h = ap entries.Copy (same_page_is q r h)
are_one (entries.Reclaim q) (entries.Reclaim r) h = ap entries.Reclaim (same_page_is q r h)
are_one (entries.Hands n) (entries.Hands m) h = ap entries.Hands (eqb-true n m h)
are_one (entries.Put q n) (entries.Put r m) h =
    let parts = and_parts (same_page q r) (n == m) h in
    ap (λ (x : Page). entries.Put x n) (same_page_is q r parts.0) ∙ ap (λ (x : ℕ). entries.Put r x) (eqb-true n m parts.1)
are_one entries.Done entries.Done h = refl
are_one (entries.SwapOut a) (entries.SwapOut b) h = ap entries.SwapOut (eqb-true a b h)
are_one (entries.SwapIn a) (entries.SwapIn b) h = ap entries.SwapIn (eqb-true a b h)
are_one (entries.Owners f u m h) (entries.Owners g v n k) e =
    let p = and_parts (f == g) (u == v && (m == n && h == k)) e in
    let q = and_parts (u == v) (m == n && h == k) p.1 in
    two (λ x y. entries.Owners x y m h) f g u v (both_true p.0 q.0) ∙ two (λ x y. entries.Owners g v x y) m n h k q.1
are_one _ _ h = absurd cc

number_self : (a : ℕ) → (a == a) ≡ true
number_self a = eq-eqb a a refl

two_self : (a n : ℕ) → (a == a && n == n) ≡ true
two_self a n = both_true (number_self a) (number_self n)

one_self : (e : Entry) → is_one_entry e e ≡ true
one_self (entries.Event a) = number_self a
one_self (entries.Turn a) = number_self a
one_self (entries.Ran a n) = two_self a n
one_self (entries.Out a xs) = both_true (number_self a) ((bytes_eq-Decides xs xs).1 refl)
one_self (entries.Grew a n) = two_self a n
one_self (entries.Call a n c r0 r1) = both_true (number_self a) (both_true (number_self n) (both_true (carry_self c) (two_self r0 r1)))
one_self (entries.Refused a) = number_self a
one_self (entries.Sleeps a) = number_self a
one_self (entries.Ended a n) = two_self a n
one_self (entries.Zero q) = same_page_self q
one_self (entries.Get q lo n) = both_true (same_page_self q) (two_self lo n)
one_self (entries.Copy q) = same_page_self q
one_self (entries.Reclaim q) = same_page_self q
one_self (entries.Hands n) = number_self n
one_self (entries.Put q n) = both_true (same_page_self q) (number_self n)
one_self entries.Done = refl
one_self (entries.SwapOut a) = number_self a
one_self (entries.SwapIn a) = number_self a
one_self (entries.Owners f u m h) = both_true (number_self f) (both_true (number_self u) (two_self m h))

pub one_exactly : (e f : Entry) (same : Bool) → same ≡ is_one_entry e f → (same ≡ true) ↔ (e ≡ f)
one_exactly e f same is = (
  λ yes. are_one e f (sym is ∙ yes),
  λ one. is ∙ subst (λ (x : Entry). is_one_entry e x ≡ true) one (one_self e),
)
