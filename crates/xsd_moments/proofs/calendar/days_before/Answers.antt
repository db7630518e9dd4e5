use Rattle.std.proofs.Common.{◌-◌, arith}
use Rattle.xsd_moments.proofs.CalendarBounds.{days_of_years, months_have}
use Rattle.xsd_moments.proofs.calendar.days_before.Goals as goal

pub overflow_add-result : goal.overflow_add-result
overflow_add-result c =
    omega (arith, c.days_before_year.ensures, c.days_of_months.ensures, days_of_years c.args.year c.requires.year, months_have c.args.year (c.args.month - 1))

pub overflow_add-result-2 : goal.overflow_add-result-2
overflow_add-result-2 c =
    omega (arith, c.days_before_year.ensures, c.days_of_months.ensures, days_of_years c.args.year c.requires.year, months_have c.args.year (c.args.month - 1))

pub returns-clause-bound : goal.returns-clause-bound
returns-clause-bound c =
    omega (arith, c.days_before_year.ensures, c.days_of_months.ensures, days_of_years c.args.year c.requires.year, months_have c.args.year (c.args.month - 1))
