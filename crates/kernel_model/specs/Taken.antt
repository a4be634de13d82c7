-- What is so right before a change of a process: the pieces that it takes were found, and nothing was given back yet.
use Rattle.std.specs.Prelude.{◌≡◌, ℕ, ◌*◌, false, cond, List, [], ◌∷◌, length, drop}
use Rattle.vm_facts.specs.declared.page.Page.TheVariants.{Text}
use Rattle.page_model.specs.Chunks.{pieces}
use Rattle.page_model.specs.Owner.{Owner}
use Rattle.page_model.specs.Owner.TheVariants as owners
use Rattle.page_model.specs.Owners.{same_owner, u_pieces}
use Rattle.page_model.specs.Placing.{Wanted}
use Rattle.page_model.specs.Change.{Change}
use Rattle.page_model.specs.Change.TheVariants.{Reap}
use Rattle.page_model.specs.Pages.{numbered}
use Rattle.page_model.specs.Placement.{slots_of, sharers}
use Rattle.page_model.specs.Place.{data_count, stack_count}
use Rattle.page_model.specs.Conditions.{CanChange, MayForget}
use Rattle.page_model.specs.Ownership.{text_pieces_while, u_blocks}
use Rattle.kernel_model.specs.Kernel.{Life, Kernel, Proc}
use Rattle.kernel_model.specs.Sound.{lives}
use Rattle.kernel_model.specs.ChangeStep.{space_of_life, life_of_proc, gave_back}
use Rattle.page_model.specs.Image.{Image}

-- the lengths of the pieces that an owner needs in a machine
abbrev pub needed : Kernel → Owner → List ℕ
needed k (owners.Data sid) = pieces (2 * data_count k.place sid)
needed k (owners.Stack sid) = pieces (2 * stack_count k.place sid)
needed k (owners.Text image) = text_pieces_while (sharers k.place image) (2 * length (slots_of k.place (Text image 0)))
needed k (owners.U pid) = u_pieces (u_blocks (lives k.processes pid))

-- the lengths of an owner's pieces among those that are wanted
abbrev pub wanted_lengths : Owner → List Wanted → List ℕ
wanted_lengths owner [] = []
wanted_lengths owner (w ∷ ws) = cond (same_owner w.owner owner) (w.length ∷ wanted_lengths owner ws) (wanted_lengths owner ws)

-- what is wanted of each owner is the further pieces that it needs in the next machine
abbrev pub AsksFor : Kernel → Kernel → List Wanted → Type 0
AsksFor k next ws = (owner : Owner) → wanted_lengths owner ws ≡ drop (length (needed k owner)) (needed next owner)

-- who is reaped ended before
abbrev pub MayReap : List Proc → Change → Type 0
MayReap ps (Reap child) = lives ps child ≡ false
MayReap ps _ = Unit {0}

-- what a change of a process asks of the whole machine, by what the process has
pub record MayChangeBy (images : List Image) (k : Kernel) (life : Life) (change : Change) : Type 0 where
  pub can : CanChange k.place (space_of_life life) (gave_back life) k.next_sid change
  pub forgets : MayForget images k.place (space_of_life life) (gave_back life) k.next_sid change
  pub reaps : MayReap k.processes change

-- what a change of the process of this number asks of the whole machine, by what the process has
abbrev pub MayChange : List Image → Kernel → ℕ → Change → Type 0
MayChange images k pid change = MayChangeBy images k (life_of_proc (numbered (λ (p : Proc). p.pid) pid k.processes)) change
