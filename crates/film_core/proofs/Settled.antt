-- What is due is filled and a step that is begun is completed, by what the machine's calls say.
use Rattle.std.proofs.Common.{◌≡◌, ℕ, ◌+◌, List, ◌++◌, Option, Some, None, refl, sym, ap, ◌∙◌, arith}
use Rattle.vm_facts.specs.SwapImages.{SwapImage}
use Rattle.vm_facts.specs.declared.entry.Entry.{Entry}
use Rattle.vm_facts.specs.declared.stop.Stop.{Stop}
use Rattle.io_edge.specs.FileHolding.{NamedFile}
use Rattle.flat_state.specs.Flat.{Inputs}
use Rattle.machine_state.specs.Machine.{Standing}
use Rattle.run_model.specs.State.{State}
use Rattle.vm_core.specs.Leading.{FillsLead, ToldAt}
use Rattle.vm_core.specs.Stepped.{StepLeads, AtSome, LeadsFrom, StopsFrom}
use Rattle.vm_core.specs.StepUnitsRests.{before_done}
use Rattle.vm_core.specs.Rests.{begun_by, BegunAt}
use Rattle.vm_core.specs.Begun.{Begun}
use Rattle.vm_core.proofs.BegunTold.{begun_told, none_between}
use Rattle.film_core.specs.Ways.{WayAt, StepSettled}
use Rattle.film_core.proofs.Composing.{then_lead, then_stop, leads_reached}

module _ (A : Inputs) (s : State) (old mid : Standing) (holds : Option (List NamedFile)) (i h : Option SwapImage) (image : SwapImage) (at : WayAt old holds i A s image)
    (l : FillsLead old mid holds h A s image) where
  way : WayAt mid holds h A l.state l.leads.behind
  way = record {
    machine = l.machine;
    told = l.leads.told;
    reached = leads_reached A s l.state old.kernel mid.kernel image l.units h at.reached l.leads;
  }

  -- the journal tells how a step is begun
  begun : begun_by (before_done mid.kernel.journal) ≡ begun_by l.state.point.last
  begun =
      ap (λ (es : List Entry). begun_by (before_done es)) l.machine.at.stands.journal
      ∙ begun_told A way.reached.holdings way.reached.units l.state way.reached.can way.reached.follows

  filled : begun_by (before_done mid.kernel.journal) ≡ None → StepLeads A s old.kernel image 0 mid.kernel h
  filled e = record {
    units = l.units;
    state = l.state;
    leads = l.leads;
    clear = l.clear;
    between = none_between l.state.point.last (sym begun ∙ e);
    count = let c = l.same.count in omega (arith, c);
    lines = l.same.lines;
    mark = l.same.mark;
  }

  begun_at : (b : Begun) → begun_by (before_done mid.kernel.journal) ≡ Some b → BegunAt mid b holds h A l.state l.leads.behind
  begun_at b e = record { machine = l.machine; told = l.leads.told; begun = sym begun ∙ e }

  finished : (new : Standing) (j : Option SwapImage) (b : Begun) → begun_by (before_done mid.kernel.journal) ≡ Some b
      → LeadsFrom (BegunAt mid b holds h) (λ A s image. StepLeads A s mid.kernel image 1 new.kernel j) → StepLeads A s old.kernel image 1 new.kernel j
  finished new j b e f =
      let d = f A l.state l.leads.behind (begun_at b e) in
      record {
        units = l.units ++ d.units;
        state = d.state;
        leads = then_lead A s l.state d.state old.kernel mid.kernel new.kernel image h j l.units d.units l.leads d.leads;
        clear = d.clear;
        between = d.between;
        count = let a = d.count in let c = l.same.count in omega (arith, a, c);
        lines = d.lines ∙ l.same.lines;
        mark = d.mark ∙ l.same.mark;
      }

pub fills_settle : (old mid : Standing) (counted : ℕ) (holds : Option (List NamedFile)) (i h : Option SwapImage)
    → LeadsFrom (ToldAt old holds i) (FillsLead old mid holds h)
    → begun_by (before_done mid.kernel.journal) ≡ None
    → LeadsFrom (WayAt old holds i) (StepSettled old mid counted counted h)
fills_settle old mid counted holds i h f e A s image at =
    (0, (let z : counted ≡ counted + 0 = omega arith in z), filled A s old mid holds i h image at (f A s image (record { machine = at.machine; told = at.told })) e)

pub finish_settles : (old mid new : Standing) (counted : ℕ) (holds : Option (List NamedFile)) (i h j : Option SwapImage) (b : Begun)
    → LeadsFrom (ToldAt old holds i) (FillsLead old mid holds h)
    → begun_by (before_done mid.kernel.journal) ≡ Some b → LeadsFrom (BegunAt mid b holds h) (λ A s image. StepLeads A s mid.kernel image 1 new.kernel j)
    → LeadsFrom (WayAt old holds i) (StepSettled old new counted (counted + 1) j)
finish_settles old mid new counted holds i h j b f e g A s image at =
    (1, refl, finished A s old mid holds i h image at (f A s image (record { machine = at.machine; told = at.told })) new j b e g)

pub finish_stops : (old mid new : Standing) (holds : Option (List NamedFile)) (i h j : Option SwapImage) (b : Begun) (stop : Stop)
    → LeadsFrom (ToldAt old holds i) (FillsLead old mid holds h)
    → begun_by (before_done mid.kernel.journal) ≡ Some b → StopsFrom (BegunAt mid b holds h) mid new j stop → StopsFrom (WayAt old holds i) old new j stop
finish_stops old mid new holds i h j b stop f e g A s image at =
    let l = f A s image (record { machine = at.machine; told = at.told }) in
    then_stop A s l.state old.kernel mid.kernel image h j l.units stop new l.leads (g A l.state l.leads.behind (begun_at A s old mid holds i h image at l b e))

pub finish_begun : (old mid : Standing) (holds : Option (List NamedFile)) (i h : Option SwapImage) (b : Begun) → AtSome (WayAt old holds i)
    → LeadsFrom (ToldAt old holds i) (FillsLead old mid holds h)
    → begun_by (before_done mid.kernel.journal) ≡ Some b → AtSome (BegunAt mid b holds h)
finish_begun old mid holds i h b (A, s, image, at) f e =
    let l = f A s image (record { machine = at.machine; told = at.told }) in
    (A, l.state, l.leads.behind, begun_at A s old mid holds i h image at l b e)
