-- The classes of tags.
use Rattle.std.specs.Prelude.{ℕ}
use Rattle.terms.specs.declared.Class.{Class}
use Rattle.terms.specs.declared.Class.TheVariants.{Plain, Nominal, Projection}

-- the number that `class` of Tree gives
abbrev pub class_number : Class → ℕ
class_number Plain = 0
class_number Nominal = 1
class_number Projection = 2
