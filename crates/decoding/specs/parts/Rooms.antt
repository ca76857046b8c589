-- How the clauses of a contract speak of a reader's tables.
use Rattle.std.specs.Prelude.{[]}
use Rattle.game.specs.promise.Tables.{Tables, tables_of}
use Rattle.decoding.specs.declared.room.Room.{Room}

-- the tables, whole
abbrev pub whole : Room → Tables
whole r = tables_of r.owners r.priorities r.starts r.targets

-- tables that say nothing: blank ones hold them
abbrev pub blank : Tables
blank = tables_of [] [] [] []
