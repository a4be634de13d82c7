-- The private fields of a film, as its callers see them.
use Rattle.film_core.specs.Films.{Filming}
use Rattle.film_core.specs.declared.film.Film.TheInside.{Inside}

-- a film as its callers see it: its machine, its lines, its last mark, what it counted, and whether it is over
abbrev pub filming_of : Inside → Filming
filming_of c = record { machine = c.machine; lines = c.lines; mark = c.mark; counted = c.counted; over = c.over }
