-- What a run sees, by its files, devices and output as they are before and after.
use Rattle.std.specs.Prelude.{List, Option}
use Rattle.io_edge.specs.FileHolding.{NamedFile}
use Rattle.io_edge.specs.FileRequests.{FileNotes}
use Rattle.io_edge.specs.declared.files.Files.{Ghosts as FilesGhosts}
use Rattle.io_edge.specs.declared.swap_dev.SwapDev.{Ghosts as SwapGhosts}
use Rattle.io_edge.specs.declared.sink.Sink.{Ghosts as SinkGhosts}
use Rattle.command_edge.specs.Command.{Faults}
use Rattle.run_command.specs.Seen.{CallFaults, Seen}
use Rattle.run_command.specs.Paired.{image_together}

-- what is seen of two devices and an output, beside what is told of files, of their faults and of what they note
abbrev pub seen_beside : {D E S : Type 0} (told : Option (List NamedFile)) (faults : Faults) (notes_old notes_new : FileNotes) (d : SwapGhosts D)
    (e : SwapGhosts E) (s : SinkGhosts S)
    (zero_old zero_new : D) (one_old one_new : E) (sink_old sink_new : S) → Seen
seen_beside told faults notes_old notes_new d e s zero_old zero_new one_old one_new sink_old sink_new = record {
  files = told;
  faults = faults;
  notes_before = notes_old;
  notes_after = notes_new;
  zero_blocks = d.blocks zero_old;
  one_blocks = e.blocks one_old;
  swap_before = image_together (d.blocks zero_old) (e.blocks one_old) (d.image zero_old) (e.image one_old);
  swap_after = image_together (d.blocks zero_new) (e.blocks one_new) (d.image zero_new) (e.image one_new);
  reads = record {
    zero_before = d.read_faults zero_old;
    zero_after = d.read_faults zero_new;
    one_before = e.read_faults one_old;
    one_after = e.read_faults one_new;
  };
  writes = record {
    zero_before = d.write_faults zero_old;
    zero_after = d.write_faults zero_new;
    one_before = e.write_faults one_old;
    one_after = e.write_faults one_new;
  };
  written_before = s.written sink_old;
  written_after = s.written sink_new;
  sink_faults_before = s.faults sink_old;
  sink_faults_after = s.faults sink_new;
}

-- the counts of the files' faults
abbrev pub faults_seen : {F : Type 0} (f : FilesGhosts F) (old new : F) → Faults
faults_seen f old new = record {
  open_before = f.open_faults old;
  open_after = f.open_faults new;
  page_before = f.page_faults old;
  page_after = f.page_faults new;
}

-- the counts of failed calls of files and of two devices
abbrev pub call_faults : {F D E : Type 0} (f : FilesGhosts F) (d : SwapGhosts D) (e : SwapGhosts E) (files_old files_new : F) (zero_old zero_new : D)
    (one_old one_new : E) → CallFaults
call_faults f d e files_old files_new zero_old zero_new one_old one_new = record {
  files = faults_seen f files_old files_new;
  reads = record {
    zero_before = d.read_faults zero_old;
    zero_after = d.read_faults zero_new;
    one_before = e.read_faults one_old;
    one_after = e.read_faults one_new;
  };
  writes = record {
    zero_before = d.write_faults zero_old;
    zero_after = d.write_faults zero_new;
    one_before = e.write_faults one_old;
    one_after = e.write_faults one_new;
  };
}

-- what is seen of files, two devices and an output
abbrev pub seen_of_all : {F D E S : Type 0} (f : FilesGhosts F) (d : SwapGhosts D) (e : SwapGhosts E) (s : SinkGhosts S)
    (files_old files_new : F) (zero_old zero_new : D) (one_old one_new : E) (sink_old sink_new : S) → Seen
seen_of_all f d e s files_old files_new zero_old zero_new one_old one_new sink_old sink_new =
    seen_beside (f.holds files_old) (faults_seen f files_old files_new) (f.notes files_old) (f.notes files_new) d e s zero_old zero_new one_old one_new
    sink_old sink_new
