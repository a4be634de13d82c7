-- What a machine keeps through the end of a transfer, for those that follow.
use Rattle.std.proofs.Common.{◌≡◌, ◌↔◌, refl, ℕ, suc, ◌*◌, ◌<◌, ◌≤◌, Bool, false, List, [], ◌∷◌, length, Option, None, Result, Err, sym, ap, ◌∙◌, subst, arith}
use Rattle.vm_facts.specs.declared.page.Page.TheVariants.{Text}
use Rattle.vm_facts.specs.SwapImages.{SwapImage}
use Rattle.io_edge.specs.FileHolding.{NamedFile}
use Rattle.flat_state.specs.Flat.{NamedImage}
use Rattle.page_model.specs.Placement.{Transfer}
use Rattle.page_model.specs.Moves.{done_of, done}
use Rattle.page_model.specs.Swapper.{is_settled}
use Rattle.vm_facts.specs.declared.stop.Stop.{Stop}
use Rattle.vm_facts.specs.declared.stop.Stop.TheVariants as stops
use Rattle.kernel_model.specs.Kernel.{Kernel}
use Rattle.kernel_model.specs.Sound.{TextFits}
use Rattle.table_steps.proofs.Shapes.{done_shaped, sizes_kept}
use Rattle.table_steps.proofs.Transfers.{land_all_rest}
use Rattle.table_steps.specs.Sourced.{ImageNamed, files_named}
use Rattle.table_steps.specs.Machine.{Standing}
use Rattle.table_steps.specs.Conditions.{HasStopped}
use Rattle.table_steps.specs.Failing.{LosesFor}
use Rattle.table_steps.specs.Files.{AreImages}
use Rattle.table_steps.specs.Done.{Sources, sources, IsDone, ImageAfter, KeepsThrough, StopsFor, SwapAfter}
use Rattle.table_steps.specs.Settled.{SettledBy, EndsWhile, IsSameBeside, StopsSettling}

pub beside_done : (old new : Standing) → new ≡ record old { kernel = new.kernel; room = None } → IsSameBeside old new
beside_done old new r = record {
  params = ap (λ (s : Standing). s.params) r;
  images = ap (λ (s : Standing). s.images) r;
  before = ap (λ (s : Standing). s.before) r;
}

pub same_sources : (old next : Standing) (holds later : Option (List NamedFile)) → later ≡ holds → IsSameBeside old next
    → sources next later ≡ sources old holds
same_sources old next holds later e b =
    ap (λ (x : Option (List NamedFile)). sources next x) e ∙ ap (λ (ns : List ImageNamed). let f : Sources = record { images = ns; files = holds } in f) b.images

-- one transfer fewer is in flight
pub fewer : (from : Sources) (i : Option SwapImage) (k l : Kernel) → IsDone from i k l → length l.place.transfers < length k.place.transfers
fewer from i k l d = subst (λ (x : Kernel). length x.place.transfers < length k.place.transfers) (sym d.step) (go k.place.transfers d.some)
  where
    go : (ts : List Transfer) → 0 < length ts → length (done_of k.place ts).transfers < length ts
    go [] m = absurd (omega arith)
    go (t ∷ ts) m = let e = ap (λ (us : List Transfer). length us) (land_all_rest t.parts k.place t.errand ts) in omega arith

fits_on : (from : Sources) (i : Option SwapImage) (k l : Kernel) (images : List NamedImage) → IsDone from i k l → TextFits images k.place
    → TextFits images l.place
fits_on from i k l images d f = subst (λ (x : Kernel). TextFits images x.place) (sym d.step)
    (λ t. f t ∙ ap (λ (n : ℕ). 1024 * n) (sym (sizes_kept k.place (done k.place) (done_shaped k.place) (Text t 0))))

pub one_more : (from later : Sources) (sid : ℕ) (old next new : Kernel) (i j h : Option SwapImage) → later ≡ from → is_settled old.place sid ≡ false
    → IsDone from i old next → ImageAfter (files_named from.images) old i j
    → SettledBy later sid next new j h → SettledBy from sid old new i h
one_more from later sid old next new i j h e u d a s = record {
  count = suc s.count;
  ends = (u, (next, j, d, a, subst (λ (x : Sources). EndsWhile x sid s.count next j new h) e s.ends));
  settled = s.settled;
}

pub one_stopped : (sid : ℕ) (old next new : Standing) (holds later : Option (List NamedFile)) (i j h : Option SwapImage) (stop : Stop) → later ≡ holds
    → IsSameBeside old next
    → is_settled old.kernel.place sid ≡ false → IsDone (sources old holds) i old.kernel next.kernel → ImageAfter (files_named old.images) old.kernel i j
    → StopsSettling sid next new later j h stop → StopsSettling sid old new holds i h stop
one_stopped sid old next new holds later i j h stop e b u d a s =
    let same : sources next later ≡ sources old holds = same_sources old next holds later e b in
    record {
      count = suc s.count;
      between = s.between;
      image = s.image;
      ends = (u, (next.kernel, j, d, a, subst (λ (x : Sources). EndsWhile x sid s.count next.kernel j s.between.kernel s.image) same s.ends));
      beside = record { params = s.beside.params ∙ b.params; images = s.beside.images ∙ b.images; before = s.beside.before ∙ b.before };
      unsettled = s.unsettled;
      stops = s.stops;
    }

err_same : (s t : Stop) → (let r : Result Bool Stop = Err s in r) ≡ Err t → s ≡ t
err_same s t e = cc

pub stopped_first : (sid : ℕ) (old new : Standing) (holds : Option (List NamedFile)) (i j : Option SwapImage) (stop : Stop)
    → is_settled old.kernel.place sid ≡ false
    → HasStopped old new → old.before ≡ old.kernel.holdings → StopsFor (Err stop) old.kernel.place.transfers
    → (((let r : Result Bool Stop = Err stop in r) ≡ Err stops.JournalFull)
    ↔ ((0 < length old.kernel.place.transfers) × (old.params.journal ≤ length old.kernel.journal)))
    → LosesFor (Err stop) old new → SwapAfter (Err stop) (files_named old.images) old.kernel i j → StopsSettling sid old new holds i j stop
stopped_first sid old new holds i j stop u s w c full lost a = record {
  count = 0;
  between = old;
  image = i;
  ends = (refl, refl);
  beside = record { params = refl; images = refl; before = refl };
  unsettled = u;
  stops = record {
    stopped = s;
    whole = w;
    full = (
      (λ h. full.0 (ap (λ (t : Stop). let r : Result Bool Stop = Err t in r) h)),
      (λ h. err_same stop stops.JournalFull (full.1 h)),
    );
    cause = c;
    lost = lost;
    image = a;
  };
}

pub through : (from : Sources) (i : Option SwapImage) (old next new : Standing) (holds later : Option (List NamedFile)) (a b c : Option SwapImage)
    → IsSameBeside old next → IsDone from i old.kernel next.kernel → later ≡ holds
    → KeepsThrough old next holds a b → KeepsThrough next new later b c → KeepsThrough old new holds a c
through from i old next new holds later a b c g d e f s images flat l t h =
    s images flat (subst (λ (ns : List ImageNamed). AreImages ns later images) (sym g.images) (subst (λ (x : Option (List NamedFile)). AreImages old.images x images) (sym e) l))
    (fits_on from i old.kernel next.kernel images d t) (f images flat l t h)
