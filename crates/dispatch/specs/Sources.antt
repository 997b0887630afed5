-- The method lists that take part (document 02, note 10): the class's or metaclass's own, and those of the categories of the class.
use Rattle.std.specs.Prelude.{ℕ, true, List, [], ◌∷◌, eqb}
use Rattle.reads.specs.Outcome.{Outcome, value, and_then, choose, nonzero}
use Rattle.pointers.specs.Tables.{Tables}
use Rattle.records.specs.Class.{class_at, ro_of}
use Rattle.walks.specs.Sections.{meta_of}
use Rattle.records.specs.declared.class.ObjcClass.{ObjcClass}
use Rattle.records.specs.declared.category.ObjcCategory.{ObjcCategory}
use Rattle.dispatch.specs.declared.sources.Side.{Side}
use Rattle.dispatch.specs.declared.sources.Side.TheVariants as side
use Rattle.dispatch.specs.declared.sources.Source.{Source}

abbrev pub source_of : ℕ → ℕ → Source
source_of origin list = record { origin = origin; list = list }

-- The method list of a class's class_ro, named by the class.
unfoldable pub list_of : Tables → ObjcClass → Outcome Source
list_of t c = and_then (ro_of t c) (λ ro. value (source_of c.address ro.methods))

-- The metaclass, as the section walk takes it: at isa, if isa is neither 0 nor the class and decodes.
unfoldable pub metaclass_of : Tables → ObjcClass → Outcome ObjcClass
metaclass_of t c = and_then (nonzero (meta_of c)) (λ a. class_at t a true)

-- The class's own list: of class methods it is the metaclass's.
unfoldable pub own_source : Tables → Side → ObjcClass → Outcome Source
own_source t side.Instance c = list_of t c
own_source t side.Class c = and_then (metaclass_of t c) (list_of t)

-- A category's list on one side.
unfoldable pub methods_on : Side → ObjcCategory → ℕ
methods_on side.Instance c = c.instance_methods
methods_on side.Class c = c.class_methods

abbrev pub category_source : Side → ObjcCategory → Source
category_source s c = source_of c.address (methods_on s c)

-- The categories whose class address is the class.
unfoldable pub of_class : ℕ → List ObjcCategory → List ObjcCategory
of_class class [] = []
of_class class (c ∷ cs) = choose (eqb c.class_address class) (c ∷ of_class class cs) (of_class class cs)
