-- The text table by its entries.
use Rattle.std.specs.Prelude.{List, map}
use Rattle.text_table.specs.Texts.{Text}
use Rattle.text_table.specs.Entries.{text_in}
use Rattle.text_table.specs.declared.table.TextTable.TheInside.{Inside}

-- the table as its callers see it: the texts of the images, in order
abbrev pub texts_of : Inside → List Text
texts_of a = map text_in a.entries
