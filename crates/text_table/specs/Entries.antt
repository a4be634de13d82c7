-- One entry of the text table, as callers see it.
use Rattle.text_table.specs.Bitmap.{pages_of}
use Rattle.text_table.specs.Texts.{Text}
use Rattle.text_table.specs.declared.entry.Entry.{Entry}

-- the text as its callers see it: how many share it, and which of its pages are saved
abbrev pub text_in : Entry → Text
text_in entry = record { sharers = entry.sharers; saved = pages_of entry.saved.words }
