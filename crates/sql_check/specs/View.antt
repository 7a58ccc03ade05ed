-- The test of the language that a test is as it's read.
use Rattle.sql_lang.specs.Expression as plain
use Rattle.sql_lang.specs.View.{test_view}
use Rattle.sql_check.specs.declared.asked_tests.ReadTest.{ReadTest}
use Rattle.sql_check.specs.declared.asked_tests.ReadTest.TheVariants as read

abbrev pub read_view : ReadTest → plain.SqlTest
read_view (read.Test t) = test_view t
read_view (read.Regexp k b p) = plain.Regexp k b p
