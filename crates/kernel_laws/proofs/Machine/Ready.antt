-- A process that holds a space of the flat state is ready for its change in a machine that stands for that state.
use Rattle.std.proofs.Common.{◌≡◌, ℕ, false, Option, Some, None, refl, sym, ap, ◌∙◌, subst}
use Rattle.flat_state.specs.Space.{Space}
use Rattle.flat_state.specs.Flat.{Holds, Zombie, Process, FlatState, process_of, spaces_of}
use Rattle.flat_state.specs.declared.change.Change.{Change}
use Rattle.flat_state.specs.declared.change.Change.TheVariants.{Resize, Fork, Exec, End}
use Rattle.page_model.specs.Pages.{SpacePages, numbered}
use Rattle.page_model.specs.Placement.{Placement, space_number}
use Rattle.kernel_model.specs.Kernel.{Life, HoldsSpace, Kernel, Proc, life_of}
use Rattle.kernel_model.specs.Coupled.{Outline, SameTables, Fits, outline_kept, outline_of}
use Rattle.kernel_model.specs.Sound.{has_life, lives, lives_in}
use Rattle.kernel_model.specs.ChangeStep.{life_of_proc}
use Rattle.kernel_model.specs.Taken.{MayReap}
use Rattle.kernel_model.specs.Asks.{HasSpace}
use Rattle.kernel_model.specs.Numbers.{TakesNext, ReadySpace, ReadyBy, ReadyFor, SettlesFor}
use Rattle.kernel_laws.proofs.Flat.Lists.{found_is}
use Rattle.kernel_laws.proofs.Machine.Tables.{all_fit, kept_at, outline_at}
use Rattle.kernel_laws.proofs.Machine.Processes.{holds_there, Stepping, stepping}

-- the space is there
pub space_there : (k : Kernel) (flat : FlatState) (pid : ℕ) (q : Process) (s : Space) → SameTables k flat → Stepping k flat pid q s
    → q.holding ≡ Holds s → HasSpace k.place s.sid
space_there k flat pid q s t st h e = go (numbered (λ (x : Space). x.sid) s.sid (spaces_of flat)) (numbered space_number s.sid k.place.spaces) refl e (all_fit k flat t s.sid)
  where
    go : (o : Option Space) (x : Option SpacePages) → numbered (λ (x : Space). x.sid) s.sid (spaces_of flat) ≡ o → x ≡ None → Fits o x → ⊥
    go None x f z w = holds_there flat.processes pid q s st.found h f
    go (Some y) None f z w = w
    go (Some y) (Some x) f z w = absurd cc

ready_space : (p : Placement) (sid : ℕ) (change : Change) → HasSpace p sid → SettlesFor p sid change → ReadySpace p sid false change
ready_space p sid (Resize d s) h w = (h, w)
ready_space p sid (Fork child) h w = h
ready_space p sid (Exec image top) h w = λ e. (h, w)
ready_space p sid (End status) h w = λ e. (h, w)
ready_space p sid _ h w = tt

pub coupled_ready : (k : Kernel) (flat : FlatState) (pid : ℕ) (q : Process) (s : Space) (change : Change) → SameTables k flat
    → process_of flat pid ≡ Some q → q.holding ≡ Holds s
    → TakesNext k change → MayReap k.processes change → SettlesFor k.place s.sid change → ReadyFor k pid change
coupled_ready k flat pid q s change t f h n r w =
    let st : Stepping k flat pid q s = stepping k flat pid q s t f h in
    let life : life_of_proc (numbered (λ (p : Proc). p.pid) pid k.processes) ≡ HoldsSpace s.sid = ap life_of_proc st.kept ∙ st.life in
    subst (λ (l : Life). ReadyBy k pid l change) (sym life) (record {
      alive = ap lives_in st.kept ∙ ap has_life st.life;
      next = n;
      reaps = r;
      space = ready_space k.place s.sid change (space_there k flat pid q s t st h) w;
    })

-- who is reaped ended before
pub coupled_reaps : (k : Kernel) (flat : FlatState) (child status : ℕ) (z : Process) → SameTables k flat → process_of flat child ≡ Some z
    → z.holding ≡ Zombie status → lives k.processes child ≡ false
coupled_reaps k flat child status z t e h =
    let f : numbered (λ (x : Process). x.pid) child flat.processes ≡ Some z = sym (found_is flat.processes child) ∙ e in
    let p : (p : Proc) × (numbered (λ (x : Proc). x.pid) child k.processes ≡ Some p) = kept_at k.processes flat.processes t.processes child z f in
    let o : outline_kept p.0 ≡ outline_of z = outline_at k.processes flat.processes t.processes child p.0 z p.1 f in
    ap lives_in p.1 ∙ ap (λ (x : Outline). has_life x.life) o ∙ ap (λ (y : Rattle.flat_state.specs.Flat.Holding). has_life (life_of y)) h
