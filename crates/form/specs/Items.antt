-- The parameter that an item of the code holds.
use Rattle.parameter.specs.Parameter.{Param, param}
use Rattle.form.specs.declared.item.Item.{Item}

abbrev pub held : Item → Param
held i = param i.tag i.value.now
