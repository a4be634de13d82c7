-- The journal of a load is short, since it counts few instructions and children.
use Rattle.std.proofs.Common.{◌≡◌, ℕ, zero, suc, ◌+◌, ◌*◌, ◌≤◌, Bool, true, false, cond, not, ◌&&◌, List, [], ◌∷◌, length, Some, refl, sym, ap, ◌∙◌, subst, arith}
use Rattle.std.proofs.lemmas.Option.{same_Some}
use Rattle.vm_facts.specs.declared.entry.Entry.{Entry}
use Rattle.vm_facts.specs.declared.entry.Entry.TheVariants as entries
use Rattle.swap_book.specs.Holdings.{Holdings}
use Rattle.flat_state.specs.Flat.{NamedImage, Inputs, image_numbered}
use Rattle.aout_image.specs.Image.{image_data_pages}
use Rattle.flat_state.specs.Journal.{instructions_of}
use Rattle.run_model.specs.State.{State}
use Rattle.run_model.specs.Lawful.{Reaches}
use Rattle.run_laws.specs.Sized.{InputsSized}
use Rattle.run_laws.specs.Running.{CanRun}
use Rattle.flat_laws.specs.Visible.{is_fork}
use Rattle.economy_laws.specs.Few.{moves_asked}
use Rattle.economy_laws.proofs.Counting.{counted_in, sums}
use Rattle.economy_laws.proofs.Totals.{journals_short}
use Rattle.load_maker.specs.Load.{load_pages}
use Rattle.load_maker.specs.Counts.{is_forking, is_granted_fork}
use Rattle.load_maker.specs.Left.{images_for, IsLoad, instructions_left, forks_left, total}
use Rattle.load_maker.specs.LoadLaws.{IsUnderWay, LoadsAreShort}
use Rattle.load_maker.proofs.Ending.{under_way}

-- a fork that was granted is a child that came
same_fork : (e : Entry) → is_fork e ≡ is_granted_fork e
same_fork (entries.Call pid number carry r0 r1) = go carry (is_forking number)
  where
    go : (c b : Bool) → Rattle.flat_laws.specs.Visible.is_fork_reply number c ≡ (is_forking number && not c)
    go true b = never (is_forking number)
      where
        never : (x : Bool) → false ≡ (x && false)
        never true = refl
        never false = refl
    go false b = always (is_forking number)
      where
        always : (x : Bool) → x ≡ (x && true)
        always true = refl
        always false = refl
same_fork _ = refl

same_counted : (us : List Entry) → counted_in (λ u. cond (is_fork u) 1 0) us ≡ counted_in (λ u. cond (is_granted_fork u) 1 0) us
same_counted [] = refl
same_counted (u ∷ us) = let k = same_counted us in let l = ap {B = ℕ} (λ (b : Bool). cond b 1 0) (same_fork u) in omega (arith, k, l)

is_few : (x named : NamedImage) → Some x ≡ Some named → image_data_pages x.image.facts ≤ 4096 → image_data_pages named.image.facts ≤ 4096
is_few x named e l = subst (λ (n : NamedImage). image_data_pages n.image.facts ≤ 4096) (same_Some x named e) l

-- the two images have few pages
few_pages : (pages number : ℕ) (named : NamedImage) → pages ≤ 64 → image_numbered (images_for pages) number ≡ Some named
    → image_data_pages named.image.facts ≤ 4096
few_pages pages zero named l e = absurd cc
few_pages pages (suc zero) named l e = is_few _ named e (omega arith)
few_pages pages (suc (suc zero)) named l e = is_few _ named e (omega (arith, l))
few_pages pages (suc (suc (suc more))) named l e = absurd cc

load_sized : (number : ℕ) (A : Inputs) → IsLoad number A → InputsSized A
load_sized number A load = record {
  images = λ n named e. few_pages (load_pages number) n named (omega arith) (ap (λ (x : List NamedImage). image_numbered x n) (sym load.images) ∙ e);
  first = let k = ap length load.first in omega (arith, k);
}

pub loads_short : LoadsAreShort
loads_short number A hs journal s load can r =
    let k = journals_short A hs journal s can (load_sized number A load) r in
    let w : IsUnderWay number journal s = under_way number A hs journal s load can r in
    let i = w.instructions in
    let f = w.children in
    let a = sums (λ u. cond (is_fork u) 1 0) journal in
    let b = sums (λ u. cond (is_granted_fork u) 1 0) journal in
    let c = same_counted journal in
    let first = ap length load.first in
    omega (arith, k, i, f, a, b, c, first)
