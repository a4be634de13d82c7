-- The machine in which all first processes began is the one at the start of a run.
use Rattle.std.proofs.Common.{◌≡◌, ℕ, List, [], ◌∷◌, ◌++◌, replicate, Option, Some, refl, sym, ap, ◌∙◌, subst, append_assoc}
use Rattle.std.proofs.lemmas.List.{append-nil}
use Rattle.aout_image.specs.declared.Image.{Image}
use Rattle.swap_book.specs.Holdings.{Holdings}
use Rattle.flat_state.specs.Flat.{NamedImage, Inputs, image_numbered}
use Rattle.page_model.specs.PageBytes.{zeros}
use Rattle.page_model.specs.Place.{facts_of}
use Rattle.page_model.specs.Placement.{Starting}
use Rattle.kernel_model.specs.Kernel.{Kernel}
use Rattle.kernel_model.specs.Start.{start_kernel, begin_step, with_first, starting_in}
use Rattle.economy_laws.proofs.Begins.{start_none, start_begins}
use Rattle.machine_state.specs.New.{fresh_kernel}
use Rattle.machine_state.specs.Applying.{facts_named}
use Rattle.machine_state.specs.Beginning.{StartedFirst}
use Rattle.machine_state.specs.Machine.{Standing}
use Rattle.machine_state.specs.Sourced.{ImageNamed}
use Rattle.proc_run.specs.Reading.{AreNamed}
use Rattle.run_model.specs.Snapshot.{starting_as, starting}
use Rattle.economy_laws.specs.RunLawsRunning.{FirstThere}
use Rattle.economy_laws.proofs.RunLawsBeginning.{are_starting}
use Rattle.vm_core.specs.FirstProcesses.{IsNew, StartsFrom}
use Rattle.vm_core.specs.Beginning.{BeginsAll}
use Rattle.vm_core.specs.Leading.{machine_at_start}
use Rattle.vm_core.proofs.Images.{IsImage, image_is}

-- the machine at the start, of the images of these numbers
abbrev pub kernel_at : Inputs → List ℕ → Holdings → Kernel
kernel_at A numbers hs = machine_at_start (record A { first = numbers }) hs

there_more : (images : List NamedImage) (ns : List ℕ) (n : ℕ) (named : NamedImage) → image_numbered images n ≡ Some named → FirstThere images ns
    → FirstThere images (ns ++ n ∷ [])
there_more images [] n named e h = ((named, e), tt)
there_more images (m ∷ ns) n named e h = (h.0, there_more images ns n named e h.1)

starting_more : (images : List NamedImage) (ns : List ℕ) (n : ℕ) (named : NamedImage) → image_numbered images n ≡ Some named
    → starting images (ns ++ n ∷ []) ≡ starting images ns ++ starting_in n named ∷ []
starting_more images [] n named e = ap (λ (o : Option NamedImage). starting_as n o ++ []) e
starting_more images (m ∷ ns) n named e =
    ap (λ (l : List Starting). starting_as m (image_numbered images m) ++ l) (starting_more images ns n named e)
    ∙ sym (append_assoc (starting_as m (image_numbered images m)) (starting images ns) (starting_in n named ∷ []))

facts_same : (images : List NamedImage) (ns : List ImageNamed) → AreNamed images ns → facts_named ns ≡ facts_of images
facts_same [] [] a = refl
facts_same [] (n ∷ ns) a = absurd a
facts_same (x ∷ images) [] a = absurd a
facts_same (x ∷ images) (n ∷ ns) a =
    ap (λ (f : Image). f ∷ facts_named ns) (sym a.1) ∙ ap (λ (fs : List Image). x.image.facts ∷ fs) (facts_same images ns a.2)

-- A machine in which processes of these images began.
pub record IsBegun (A : Inputs) (done : List ℕ) (m : Standing) : Type 0 where
  pub images : AreNamed A.images m.images
  pub there : FirstThere A.images done
  pub kernel : m.kernel ≡ kernel_at A done m.kernel.holdings

pub none_begun : (A : Inputs) (m : Standing) (numbers : List ℕ) → IsNew m → StartsFrom A m numbers → IsBegun A [] m
none_begun A m numbers n s = record {
  images = s.named;
  there = tt;
  kernel =
      n.kernel ∙ ap (λ (fs : List Image). fresh_kernel fs m.params.frames) (facts_same A.images m.images s.named)
      ∙ ap (fresh_kernel (facts_of A.images)) (sym s.frames)
      ∙ sym (start_none (let B : Inputs = record A { first = [] } in B) (replicate A.frames zeros) refl)
      ∙ ap (kernel_at A []) (sym (ap (λ (k : Kernel). k.holdings) n.kernel));
}

next_begun : (A : Inputs) (done : List ℕ) (n : ℕ) (old next : Standing) → IsBegun A done old → StartedFirst old next n → IsBegun A (done ++ n ∷ []) next
next_begun A done n old next b s =
    let i : IsImage A.images n s.named = image_is A.images old.images n s.named b.images s.is in
    let B : Inputs = record A { first = done } in
    let first : List Starting = starting A.images done in
    record {
      images = subst (AreNamed A.images) (sym (ap (λ (m : Standing). m.images) s.step)) b.images;
      there = there_more A.images done n i.named i.is b.there;
      kernel =
          ap (λ (m : Standing). m.kernel) s.step
          ∙ ap (λ (k : Kernel). begin_step k s.found n s.named.name s.named.facts) b.kernel
          ∙ ap (λ (name : List ℕ). begin_step (kernel_at A done old.kernel.holdings) s.found n name s.named.facts) (sym i.name)
          ∙ ap (begin_step (kernel_at A done old.kernel.holdings) s.found n i.named.name) (sym i.facts)
          ∙ sym (start_begins B first old.kernel.holdings s.found (replicate A.frames zeros) n i.named (are_starting A.images done b.there) i.is)
          ∙ ap (λ (xs : List Starting). start_kernel (with_first B n) xs s.found (replicate A.frames zeros)) (sym (starting_more A.images done n i.named i.is))
          ∙ ap (kernel_at A (done ++ n ∷ [])) (sym (ap (λ (m : Standing). m.kernel.holdings) s.step));
    }

all_begun : (A : Inputs) (ns done : List ℕ) (old new : Standing) → IsBegun A done old → BeginsAll ns old new → IsBegun A (done ++ ns) new
all_begun A [] done old new b h = subst (λ (xs : List ℕ). IsBegun A xs new) (sym (append-nil done)) (subst (IsBegun A done) (sym h) b)
all_begun A (n ∷ ns) done old new b h =
    subst (λ (xs : List ℕ). IsBegun A xs new) (append_assoc done (n ∷ []) ns) (all_begun A ns (done ++ n ∷ []) h.0 new (next_begun A done n old h.0 b h.1) h.2)

pub begun_at : (A : Inputs) (numbers : List ℕ) (old new : Standing) → IsNew old → StartsFrom A old numbers → BeginsAll numbers old new → IsBegun A A.first new
begun_at A numbers old new n s h = subst (λ (xs : List ℕ). IsBegun A xs new) (sym s.first) (all_begun A numbers [] old new (none_begun A old numbers n s) h)
