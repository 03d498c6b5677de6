-- What reading a drawer file answers, as its promise says it.
use Rattle.std.specs.Prelude.{ℕ, ◌-◌, ◌^◌, Result, Ok, Err}
use Rattle.drawer.specs.declared.Drawer.{Drawer}
use Rattle.drawer.specs.Drawer.{started}
use Rattle.drawer_file.specs.declared.Damaged.{Damaged}

-- its number: 0, or that of damage
abbrev pub told : Result Drawer Damaged → ℕ
told (Ok d) = 0
told (Err damaged) = 106

-- the drawer; where the file is damaged, reader 0 and nothing left to draw
abbrev pub drawer_of : Result Drawer Damaged → Drawer
drawer_of (Ok d) = d
drawer_of (Err damaged) = started 0 (2 ^ 64 - 1)
